-- Document 02, Note 6: who may write what, by document 000's marks.
use Rattle.std.specs.Prelude.{Bool, true, false, ℕ}
use Rattle.templates.specs.declared.Mark.{Mark}
use Rattle.templates.specs.declared.Mark.TheVariants.{Id, Cal, Usr}
use Rattle.templates.specs.declared.Level.{Level}
use Rattle.templates.specs.declared.Level.TheVariants.{Owner, CalibrationRoom, Maker}

-- An owner writes fields marked USR, a calibration room also CAL, a maker every field.
abbrev pub may_write : Level → Mark → Bool
may_write Owner Id = false
may_write Owner Cal = false
may_write Owner Usr = true
may_write CalibrationRoom Id = false
may_write CalibrationRoom Cal = true
may_write CalibrationRoom Usr = true
may_write Maker mark = true

-- The order of levels: owner, calibration room, maker.
abbrev pub rank : Level → ℕ
rank Owner = 0
rank CalibrationRoom = 1
rank Maker = 2
