-- Demand 3 on the calls: one-field changes and commits lent as slices.
-- The kind, level, field, and value or codes of each are at its index.
use Rattle.std.specs.Prelude.{◌≡◌, cond, List, [], ◌∷◌, ◌++◌, map, ℕ, zero, suc, eqb, ℤ, pos, Float, length, get_or}
use Rattle.std.specs.Float.{nan}
use Rattle.templates.specs.declared.Level.{Level}
use Rattle.templates.specs.declared.Level.TheVariants.{Owner, CalibrationRoom, Maker}
use Rattle.codes.specs.declared.Value.{Value}
use Rattle.codes.specs.declared.Value.TheVariants.{Whole, Single, Missing}
use Rattle.promises.specs.declared.lent.Target.{Target}
use Rattle.promises.specs.declared.lent.Content.{Content}
use Rattle.promises.specs.Alterations.{Change, Commit, Alteration, changes, commits}

-- A level by its number: 0 owner, 1 calibration room, 2 maker, any other owner.
abbrev pub level_lent : ℕ → Level
level_lent zero = Owner
level_lent (suc zero) = CalibrationRoom
level_lent (suc (suc zero)) = Maker
level_lent (suc (suc (suc n))) = Owner

-- A value by its sort: 0 is a whole number, 1 a Single, any other missing.
abbrev pub value_of_sort : ℕ → ℤ → Float → Value
value_of_sort zero whole single = Whole whole
value_of_sort (suc zero) whole single = Single single
value_of_sort (suc (suc n)) whole single = Missing

-- The value at an index: missing past the end of a slice.
abbrev pub value_at : List ℕ → List ℤ → List Float → ℕ → Value
value_at [] wholes singles i = Missing
value_at (sort ∷ tags) [] singles i = Missing
value_at (sort ∷ tags) (whole ∷ wholes) [] i = Missing
value_at (sort ∷ tags) (whole ∷ wholes) (single ∷ singles) zero = value_of_sort sort whole single
value_at (sort ∷ tags) (whole ∷ wholes) (single ∷ singles) (suc i) = value_at tags wholes singles i

abbrev pub target_at : List ℕ → List ℕ → List ℕ → ℕ → Target
target_at kinds levels fields i = record { kind = get_or kinds i 0; level = level_lent (get_or levels i 0); field = get_or fields i 0 }

abbrev pub content_at : List ℕ → List ℤ → List Float → List ℕ → List ℕ → ℕ → Content
content_at tags wholes singles presents news i =
    record { sort = get_or tags i 0; value = value_at tags wholes singles i; present = get_or presents i 0; new = get_or news i 0 }

abbrev pub change_of : Target → Content → Change
change_of t c = record { kind = t.kind; level = t.level; field = t.field; value = c.value }

abbrev pub commit_of : Target → Content → Commit
commit_of t c = record { kind = t.kind; level = t.level; field = t.field; present = c.present; new = c.new }

-- Sort 3 is a commit.
abbrev pub alteration_of : Target → Content → Alteration
alteration_of t c = cond (eqb c.sort 3) (commits (commit_of t c)) (changes (change_of t c))

module _ (kinds levels fields tags : List ℕ) (wholes : List ℤ) (singles : List Float) (presents news : List ℕ) where
  abbrev pub alteration_lent : ℕ → Alteration
  alteration_lent i = alteration_of (target_at kinds levels fields i) (content_at tags wholes singles presents news i)

  -- The alterations before an index, in order.
  abbrev pub alterations_before : ℕ → List Alteration
  alterations_before zero = []
  alterations_before (suc i) = alterations_before i ++ (alteration_lent i ∷ [])

  -- As many alterations as there are fields.
  abbrev pub alterations_lent : List Alteration
  alterations_lent = alterations_before (length fields)

-- ---- every list can be lent as slices

abbrev pub kind_in : Alteration → ℕ
kind_in (changes ch) = ch.kind
kind_in (commits co) = co.kind

abbrev pub level_number : Level → ℕ
level_number Owner = 0
level_number CalibrationRoom = 1
level_number Maker = 2

abbrev pub level_in : Alteration → ℕ
level_in (changes ch) = level_number ch.level
level_in (commits co) = level_number co.level

abbrev pub field_in : Alteration → ℕ
field_in (changes ch) = ch.field
field_in (commits co) = co.field

abbrev pub sort_of : Value → ℕ
sort_of (Whole z) = 0
sort_of (Single x) = 1
sort_of Missing = 2

abbrev pub sort_in : Alteration → ℕ
sort_in (changes ch) = sort_of ch.value
sort_in (commits co) = 3

abbrev pub whole_of : Value → ℤ
whole_of (Whole z) = z
whole_of (Single x) = pos 0
whole_of Missing = pos 0

abbrev pub whole_in : Alteration → ℤ
whole_in (changes ch) = whole_of ch.value
whole_in (commits co) = pos 0

abbrev pub single_of : Value → Float
single_of (Whole z) = nan
single_of (Single x) = x
single_of Missing = nan

abbrev pub single_in : Alteration → Float
single_in (changes ch) = single_of ch.value
single_in (commits co) = nan

abbrev pub present_in : Alteration → ℕ
present_in (changes ch) = 0
present_in (commits co) = co.present

abbrev pub new_in : Alteration → ℕ
new_in (changes ch) = 0
new_in (commits co) = co.new

-- Every list of changes and commits is lent by some slices.
abbrev pub EveryListLent : Type 0
EveryListLent =
    (list : List Alteration) →
    alterations_lent (map kind_in list) (map level_in list) (map field_in list) (map sort_in list) (map whole_in list) (map single_in list) (map present_in list) (map new_in list)
    ≡ list
