-- Laws of the values of the scales, and of the tables in the code.
use Rattle.codes.proofs.Names.{◌≡◌, ap, Bool, ◌&&◌, List, ℕ, suc, ◌+◌, ◌*◌, ◌-◌, ◌/◌, ◌^◌, ◌≤◌, ◌<◌, le_refl, le_of_lt, div-mul-le_self, lt-div-mul-add, one-le-pow, arith, T, eqb, eqb→eq, ltb, ltb→lt, nat_abs}
use Rattle.codes.proofs.Names.{length, get_or, and_yes, nearest-natural, Scale, ResponseTime, Current, Progression, progression, scale_width, top_code, geometric_value, stored_at, Rising, ValuesRise, NearestUnit}
use Rattle.codes.proofs.Names.{ValuesNearest, listed, RisingList, TableOf}
use Rattle.codes.proofs.Table.{each, at}
use Rattle.codes.proofs.StoringLaws.{stored_same}

-- The value of a code, by division of naturals.
abbrev size : Progression → ℕ → ℕ
size g code = (2 * (g.start * (g.parts + 2 * g.tolerance) ^ code) + g.parts ^ code) / (2 * g.parts ^ code)

size_is : (g : Progression) (code : ℕ) → geometric_value g code ≡ size g code
unfolding geometric_value
size_is g code = ap nat_abs (nearest-natural (g.start * (g.parts + 2 * g.tolerance) ^ code) (g.parts ^ code))

-- ---- the values rise

abbrev steps : Progression → ℕ → Bool
steps g k = ltb (size g k) (size g (suc k))

rising : (g : Progression) (n : ℕ) → T (ltb 0 (size g 0) && each (steps g) n) → Rising (geometric_value g) n
rising g n t =
    let p = and_yes (ltb 0 (size g 0)) (each (steps g) n) t in
    record {
      positive = rw (size_is g 0) (ltb→lt 0 (size g 0) p.0);
      rises = λ c l. rw (size_is g c, size_is g (suc c)) (ltb→lt (size g c) (size g (suc c)) (at (steps g) n c p.1 (le_of_lt l)));
    }

pub values-rise : ValuesRise
values-rise ResponseTime = rising (progression ResponseTime) _ tt
values-rise Current = rising (progression Current) _ tt

-- ---- each value is the unit nearest to the exact power

nearest-unit : (num den : ℕ) → 0 < den → NearestUnit num den ((2 * num + den) / (2 * den))
nearest-unit num den some =
    record {
      low = omega (arith, div-mul-le_self (2 * num + den) (2 * den));
      high = omega (arith, lt-div-mul-add {a = 2 * num + den} {b = 2 * den} (omega arith));
    }

some-parts : (scale : Scale) → 1 ≤ (progression scale).parts
some-parts ResponseTime = omega arith
some-parts Current = omega arith

pub values-nearest : ValuesNearest
values-nearest scale code =
    let g : Progression = progression scale in
    rw (size_is g code) (nearest-unit (g.start * (g.parts + 2 * g.tolerance) ^ code) (g.parts ^ code) (one-le-pow code g.parts (some-parts scale)))

-- ---- the table of a scale

abbrev right : Scale → List ℕ → ℕ → Bool
right scale xs k = eqb (get_or xs k 0) (size (progression scale) k)

abbrev is_table : Scale → List ℕ → Bool
is_table scale xs = eqb (length xs) (suc (top_code (scale_width scale))) && each (right scale xs) (top_code (scale_width scale))

-- The test of a whole table, which antt computes.
pub tested : (scale : Scale) (xs : List ℕ) → T (is_table scale xs) → TableOf scale xs
unfolding listed
tested scale xs test =
    let top : ℕ = top_code (scale_width scale) in
    let parts = and_yes (eqb (length xs) (suc top)) (each (right scale xs) top) test in
    record {
      long = eqb→eq (length xs) (suc top) parts.0;
      entry = λ k l. rw (size_is (progression scale) k) (eqb→eq (get_or xs k 0) (size (progression scale) k) (at (right scale xs) top k parts.1 l));
    }

module _ {scale : Scale} {xs : List ℕ} (h : TableOf scale xs) where
  top : length xs - 1 ≡ top_code (scale_width scale)
  top = omega (arith, h.long)

  -- The table rises, and a figure is stored by it as by the scale.
  pub list-rises : RisingList xs
  list-rises =
      record {
        some = omega (arith, h.long);
        rising = rw top
            (record {
              positive = rw (h.entry 0 (omega arith)) (values-rise scale).positive;
              rises = λ c l. rw (h.entry c (omega arith), h.entry (suc c) (omega arith)) ((values-rise scale).rises c (omega arith));
            });
      }

  pub stored-by : (w : ℕ) → stored_at (listed xs) (length xs - 1) w ≡ stored_at (geometric_value (progression scale)) (top_code (scale_width scale)) w
  stored-by w = rw top (stored_same (listed xs) (geometric_value (progression scale)) (top_code (scale_width scale)) w h.entry)

  pub within-list : (w : ℕ) → w ≤ geometric_value (progression scale) (top_code (scale_width scale)) → w ≤ listed xs (length xs - 1)
  within-list w l = rw (top, h.entry (top_code (scale_width scale)) (le_refl _)) l
