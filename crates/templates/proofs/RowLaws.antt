-- Laws of the rows of a layout.
use Rattle.templates.proofs.Names.{◌≡◌, refl, Bool, true, false, beq, List, [], ◌∷◌, ◌++◌, ℕ, zero, suc, ◌+◌, ◌-◌, ◌≤◌, ◌<◌, le_of_suc-le-suc, not-suc-le-zero, arith, T, eqb, length, get_or, Ieee, Template}
use Rattle.templates.proofs.Names.{Bridge, Resistance, Layout, optional, bridge_end, resistance_end, Line, basic, template33, template32, template_lines, lines_of, last_field, line_of, row_of, rows_of, no_line, cal_domain}
use Rattle.templates.proofs.Names.{point_count, cal_point, cal_deviation, curve_domain, segment_count, segment_start, term_count, exponent, coefficient, Sound, AllSound, RowsSound}
use Rattle.codes.proofs.Table.{at}

-- f is none of the n numbers from `first` on.
abbrev pub NoneOf : ℕ → ℕ → ℕ → Type 0
NoneOf first zero f = Unit {0}
NoneOf first (suc n) f = NoneOf first n f × (f ≡ first + n → ⊥)

pub past : (first n : ℕ) {f : ℕ} → first ≤ f → NoneOf first n f → first + n ≤ f
past first zero h none = omega arith
past first (suc n) h none = omega (arith, past first n h none.0, none.1)

-- Two tests that agree are equal.
pub agree : (a b : Bool) → T (beq a b) → a ≡ b
agree true true t = refl
agree false false t = refl
agree true false t = absurd t
agree false true t = absurd t

-- Field 9 is the only field whose code sets widths.
pub sets-at : (t : Template) (f : ℕ) → f ≤ last_field t → eqb f 9 ≡ (line_of t f).sets
unfolding basic template33 template32 lines_of
sets-at Bridge f h = agree _ _ (at (λ f. beq (eqb f 9) (line_of Bridge f).sets) 21 f tt h)
sets-at Resistance f h = agree _ _ (at (λ f. beq (eqb f 9) (line_of Resistance f).sets) 19 f tt h)

-- Every greater precision has the row of the last one that is named.
pub bridge-single : (p : ℕ) → NoneOf 0 2 p → optional 32 Ieee ≡ bridge_end p
bridge-single zero none = absurd (none.0.1 refl)
bridge-single (suc zero) none = absurd (none.1 refl)
bridge-single (suc (suc p)) none = refl

pub resistance-single : (p : ℕ) → NoneOf 0 3 p → optional 32 Ieee ≡ resistance_end p
resistance-single zero none = absurd (none.0.0.1 refl)
resistance-single (suc zero) none = absurd (none.0.1 refl)
resistance-single (suc (suc zero)) none = absurd (none.1 refl)
resistance-single (suc (suc (suc p))) none = refl

-- ---- the lines of the templates, whatever the choice

pub basic-sound : (latest : ℕ) → AllSound (rows_of basic latest)
unfolding basic
basic-sound latest = omega arith

pub bridge-sound : (p : ℕ) → Sound (bridge_end p)
bridge-sound zero = omega arith
bridge-sound (suc zero) = omega arith
bridge-sound (suc (suc p)) = omega arith

pub resistance-sound : (p : ℕ) → Sound (resistance_end p)
resistance-sound zero = omega arith
resistance-sound (suc zero) = omega arith
resistance-sound (suc (suc zero)) = omega arith
resistance-sound (suc (suc (suc p))) = omega arith

pub lines-sound : (template : Template) (latest : ℕ) → AllSound (rows_of (template_lines template) latest)
unfolding template33 template32
lines-sound Bridge latest =
    let ends = bridge-sound latest in
    (omega arith, (omega arith, (omega arith, (omega arith, (ends, (ends, (omega arith, (omega arith, omega arith))))))))
lines-sound Resistance latest =
    let ends = resistance-sound latest in
    (omega arith, (omega arith, (omega arith, (omega arith, (ends, (ends, (omega arith, (omega arith, omega arith))))))))

joined : (xs ys : List Line) (latest : ℕ) → AllSound (rows_of xs latest) → AllSound (rows_of ys latest) → AllSound (rows_of (xs ++ ys) latest)
joined [] ys latest a b = b
joined (x ∷ xs) ys latest a b = (a.0, joined xs ys latest a.1 b)

all_lines : (template : Template) (latest : ℕ) → AllSound (rows_of (lines_of template) latest)
unfolding lines_of
all_lines template latest = joined basic (template_lines template) latest (basic-sound latest) (lines-sound template latest)

sound-at : (lines : List Line) (d : Line) (latest : ℕ) → AllSound (rows_of lines latest) → (i : ℕ) → i < length lines → Sound ((get_or lines i d).row_at latest)
sound-at [] d latest all i h = absurd (not-suc-le-zero h)
sound-at (x ∷ xs) d latest all zero h = all.0
sound-at (x ∷ xs) d latest all (suc i) h = sound-at xs d latest all.1 i (le_of_suc-le-suc h)

pub row-sound : (layout : Layout) (f : ℕ) → 1 ≤ f → f ≤ last_field layout.template → Sound (row_of layout f)
row-sound layout f low high =
    sound-at (lines_of layout.template) no_line layout.precision (all_lines layout.template layout.precision) (f - 1) (omega arith)

-- ---- the calibration table

pub domain-sound : Sound cal_domain
domain-sound = omega arith

pub count-sound : Sound point_count
count-sound = omega arith

pub point-sound : Sound cal_point
point-sound = omega arith

pub deviation-sound : Sound cal_deviation
deviation-sound = omega arith

-- ---- curves

pub curve-domain-sound : Sound curve_domain
curve-domain-sound = omega arith

pub segment-count-sound : Sound segment_count
segment-count-sound = omega arith

pub start-sound : Sound segment_start
start-sound = omega arith

pub term-count-sound : Sound term_count
term-count-sound = omega arith

pub exponent-sound : Sound exponent
exponent-sound = omega arith

pub coefficient-sound : Sound coefficient
coefficient-sound = omega arith

pub rows-sound : RowsSound
rows-sound template latest = (
  all_lines template latest,
  (domain-sound, (count-sound, (point-sound, (deviation-sound, tt)))),
  (curve-domain-sound, (segment-count-sound, (start-sound, (term-count-sound, (exponent-sound, (coefficient-sound, tt)))))),
)
