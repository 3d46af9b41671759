-- Document 02, Note 4, of the call's own definition. A figure w between the
-- values a and b of neighbouring codes is stored at b's code "if w × w is at
-- least a × b, otherwise" at a's. For both scales, in every row that has one.
use Rattle.std.specs.Prelude.{◌≡◌, ℕ, suc, ◌*◌, ◌≤◌, ◌<◌, pos}
use Rattle.refusal.specs.Outcome.{Ok}
use Rattle.codes.specs.declared.Scale.{Scale}
use Rattle.codes.specs.declared.Row.{Row}
use Rattle.codes.specs.declared.Rule.TheVariants.{Geometric}
use Rattle.codes.specs.declared.Value.TheVariants.{Whole}
use Rattle.codes.specs.Rules.{top_code, progression, scale_width, geometric_value, encode}

abbrev pub EncodedByRatio : Type 0
EncodedByRatio =
    (row : Row) (scale : Scale) (place c w : ℕ) → row.rule ≡ Geometric scale → row.width ≡ scale_width scale → c < top_code row.width →
    let value = geometric_value (progression scale) in
    value c ≤ w → w ≤ value (suc c) →
    (value c * value (suc c) ≤ w * w → encode row place (Whole (pos w)) ≡ Ok (suc c)) ×
    (w * w < value c * value (suc c) → encode row place (Whole (pos w)) ≡ Ok c)
