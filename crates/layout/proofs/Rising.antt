-- Laws of a calibration table as fields of 37 bits,
-- one for each pair: valid pairs that rise are parsed.
use Rattle.layout.proofs.Names.{◌≡◌, refl, sym, ap, ◌∙◌, Option, None, Some, ℕ, ◌+◌, ◌*◌, ◌/◌, ◌%◌, ◌^◌, ◌≤◌, ◌<◌, arith, lt-leb, le-ltb, ℤ, pos, high, low, Ok, field_at, field_lt, field-add, Whole, Stepped}
use Rattle.layout.proofs.Names.{Codes, Domain, Electrical, Physical, all_ones, top_code, stepped_value, decode, always, D, R, least_deviation, cal_point, cal_deviation, codes_of, follows, sum-climbs, ◌>>=◌, Stream}
use Rattle.layout.proofs.Names.{parse, FoundPair, field_of, pair_of, pair_bits, sum_above}
use Rattle.layout.proofs.Calibrations.{following}
use Rattle.layout.proofs.Formats.{parsed, parse-next}
use Rattle.layout.proofs.Fields.{found}
use Rattle.layout.proofs.Standing.{Valid, stands-parse}

-- ---- what may follow

-- After this pair, any pair may follow whose point is at least
-- `least` and, in domain 1, whose sum is at least `floor`.
abbrev pub Admits : Domain → Option Codes → ℕ → ℕ → Type 0
Admits domain before least floor =
    (place : ℕ) (next : Codes) → least ≤ next.point → (domain ≡ Physical → floor ≤ sum_above next) → follows domain before place next ≡ Ok tt

-- Any pair may be the first; after another, any with
-- a greater point and, in domain 1, a greater sum.
pub admits-first : (domain : Domain) (least floor : ℕ) → Admits domain None least floor
unfolding follows
admits-first domain least floor place next h g = refl

pub admits-next : (domain : Domain) (b : Codes) (least floor : ℕ) → b.point < least → (domain ≡ Physical → sum_above b < floor) → Admits domain (Some b) least floor
unfolding follows
admits-next Electrical b least floor l f place next h g = rw (lt-leb next.point b.point (omega arith))
admits-next Physical b least floor l f place next h g =
    rw (lt-leb next.point b.point (omega arith), sum-climbs b next (omega (arith, f refl, g refl)))

pub not-physical : {A : Type 0} {domain : Domain} → domain ≡ Electrical → domain ≡ Physical → A
not-physical e p = absurd (let z : ◌≡◌ {A = ℕ} 0 1 = cc in omega arith)

-- ---- a pair of 37 bits

-- A stepped code below all ones.
stepped-good : (w : ℕ) (start : ℤ) (step at code : ℕ) → code ≤ top_code w → decode (always w (Stepped start step)) at code ≡ Ok (Whole (stepped_value start step code))
unfolding decode
stepped-good w start step at code l = rw (le-ltb (top_code w) code l)

-- The codes of a pair, the point's lowest.
abbrev pub codes_from : ℕ → Codes
codes_from both = codes_of (both % 2 ^ 16) (both / 2 ^ 16)

-- The pair, if both codes are valid.
abbrev pub pair_from : ℕ → ℕ → FoundPair
pair_from at both = record {
  point = found cal_point at (both % 2 ^ 16) (Whole (stepped_value (pos 0) D (both % 2 ^ 16)));
  deviation = found cal_deviation (at + 16) (both / 2 ^ 16) (Whole (stepped_value least_deviation R (both / 2 ^ 16)));
}

module _ (s : Stream) (at both : ℕ) (e : both ≡ field_at s.number at pair_bits) where
  halves : both ≡ field_at s.number (at + 16) 21 * 2 ^ 16 + field_at s.number at 16
  halves = e ∙ field-add s.number at 21 16

  point-is : field_at s.number at 16 ≡ both % 2 ^ 16
  point-is = sym (ap (λ (n : ℕ). n % 2 ^ 16) halves ∙ low (field_at s.number (at + 16) 21) 16 (field_lt s.number at 16))

  deviation-is : field_at s.number (at + 16) 21 ≡ both / 2 ^ 16
  deviation-is = sym (ap (λ (n : ℕ). n / 2 ^ 16) halves ∙ high (field_at s.number (at + 16) 21) 16 (field_lt s.number at 16))

  -- A pair of valid codes that may follow.
  pub pair-rises : (domain : Domain) (before : Option Codes) (least floor : ℕ) → Admits domain before least floor → at + pair_bits ≤ s.bits →
      least ≤ both % 2 ^ 16 → (both % 2 ^ 16 ≡ all_ones 16 → ⊥) → (both / 2 ^ 16 ≡ all_ones 21 → ⊥) → (domain ≡ Physical → floor ≤ sum_above (codes_from both)) →
      parse s (pair_of domain before) at ≡ Ok (parsed (pair_from at both) (at + pair_bits))
  unfolding pair_of
  pair-rises domain before least floor admits inside l hp hd g =
      let np : both % 2 ^ 16 < 2 ^ 16 = rw (← point-is) (field_lt s.number at 16) in
      let nd : both / 2 ^ 16 < 2 ^ 21 = rw (← deviation-is) (field_lt s.number (at + 16) 21) in
      let p : Valid s cal_point at (pair_from at both).point = record {
        field = record { is = refl; fits = np; means = stepped-good 16 (pos 0) D at (both % 2 ^ 16) (omega arith) };
        code = point-is;
        inside = omega arith;
      } in
      let d : Valid s cal_deviation (at + 16) (pair_from at both).deviation = record {
        field = record { is = refl; fits = nd; means = stepped-good 21 least_deviation R (at + 16) (both / 2 ^ 16) (omega arith) };
        code = deviation-is;
        inside = omega arith;
      } in
      parse-next s (field_of cal_point) (λ x. field_of cal_deviation >>= following domain before x) at (sym (stands-parse p))
      ∙ parse-next s (field_of cal_deviation) (following domain before (pair_from at both).point) (at + 16) (sym (stands-parse d))
      ∙ rw (admits at (codes_from both) l g) (ap (λ (n : ℕ). Ok (parsed (pair_from at both) n)) (omega arith))
