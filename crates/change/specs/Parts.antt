-- Only inner contracts need this: the parts of a change, a proposal and a commit as
-- the code computes them. They use only what the rows of an opened sheet depend on.
use Rattle.std.specs.Prelude.{not, ◌||◌, ℕ, eqb, ltb}
use Rattle.refusal.specs.Outcome.{Outcome, Ok, ◌>>=◌, ◌>>◌, refuse◌if◌}
use Rattle.refusal.specs.declared.Refusal.TheVariants.{NoSuch, ChangedAlone, OutOfRange, OtherCode, LevelTooLow}
use Rattle.codes.specs.declared.Value.{Value}
use Rattle.templates.specs.declared.Template.{Template}
use Rattle.templates.specs.declared.Layout.{Layout}
use Rattle.codes.specs.declared.Row.{Row}
use Rattle.templates.specs.declared.Level.{Level}
use Rattle.codes.specs.Rules.{decode, encode}
use Rattle.templates.specs.Lines.{last_field, line_of, row_of}
use Rattle.templates.specs.Levels.{may_write}
use Rattle.change.specs.declared.Proposal.{Proposal}
use Rattle.change.specs.Change.{may_stand}

-- Row 20 of a field of a template.
abbrev pub writable_in : Template → Level → ℕ → Outcome (Unit {0})
writable_in template level f = refuse LevelTooLow f if not (may_write level (line_of template f).mark)

-- Rows 8, 12 and 20 of a field of a template.
unfoldable pub allowed_in : Template → Level → ℕ → Outcome (Unit {0})
allowed_in template level f = do
  refuse NoSuch f if eqb f 0 || ltb (last_field template) f
  refuse ChangedAlone f if (line_of template f).sets
  writable_in template level f

-- The code that a value would be stored at.
unfoldable pub code_in : Layout → Level → ℕ → Value → Outcome ℕ
code_in layout level f value = do
  allowed_in layout.template level f
  encode (row_of layout f) f value

-- A proposal of a code for the field of a row at a place, which holds the present one.
abbrev pub proposed_at : Row → ℕ → ℕ → ℕ → Outcome Proposal
proposed_at row at present code = decode row at code >>= λ back. Ok (record { present = present; new = code; value = back })

-- Rows 19 and 10 of the field of a row that holds a code.
abbrev pub may_follow : Row → ℕ → ℕ → ℕ → ℕ → Outcome (Unit {0})
may_follow row stands f present new = (refuse OtherCode f if not (eqb stands present)) >> (refuse OutOfRange f if not (may_stand row new))
