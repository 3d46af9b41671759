-- Every row of every template is sound, whatever the choice, and so is each of a calibration table and of a curve.
use Rattle.std.specs.Prelude.{[], ◌∷◌, ℕ}
use Rattle.templates.specs.declared.Template.{Template}
use Rattle.templates.specs.Lines.{lines_of, rows_of}
use Rattle.templates.specs.Calibration.{cal_domain, point_count, cal_point, cal_deviation}
use Rattle.templates.specs.Curves.{curve_domain, segment_count, segment_start, term_count, exponent, coefficient}
use Rattle.codes.specs.Stored.{AllSound}

abbrev pub RowsSound : Type 0
RowsSound =
    (template : Template) (latest : ℕ) →
    AllSound (rows_of (lines_of template) latest) ×
    AllSound (cal_domain ∷ point_count ∷ cal_point ∷ cal_deviation ∷ []) ×
    AllSound (curve_domain ∷ segment_count ∷ segment_start ∷ term_count ∷ exponent ∷ coefficient ∷ [])
