-- Document 01: change one field; document 02, Note 5: propose a change, and
-- commit it; Note 6: each by a writer of a level. They share their parts: the
-- field that the writer may change, the code to be stored, and the rewriting.
use Rattle.std.specs.Prelude.{Bool, not, ◌&&◌, List, ℕ, ◌^◌, eqb, ltb, length, is_ok}
use Rattle.refusal.specs.Outcome.{Outcome, Ok, ◌>>◌, ◌>>=◌, refuse◌if◌}
use Rattle.refusal.specs.declared.Refusal.TheVariants.{ChangedAlone, OutOfRange, OtherCode, LevelTooLow}
use Rattle.memory.specs.declared.Sizes.{Sizes}
use Rattle.memory.specs.Bits.{put_at}
use Rattle.memory.specs.Image.{image_sizes, stream_number, image_of}
use Rattle.codes.specs.declared.Value.{Value}
use Rattle.codes.specs.declared.Row.{Row}
use Rattle.templates.specs.declared.Level.{Level}
use Rattle.codes.specs.Rules.{decode, encode}
use Rattle.templates.specs.Lines.{line_of}
use Rattle.templates.specs.Levels.{may_write}
use Rattle.layout.specs.Contents.{Found, Contents}
use Rattle.layout.specs.Image.{contents, field, numbered}
use Rattle.change.specs.declared.Proposal.{Proposal}

-- ---- the parts of a change

-- Field f, which may be changed alone by a writer of a level. Order: 8, 12, 20.
unfoldable pub changeable : Contents → Level → ℕ → Outcome Found
changeable c level f = do
  x ← numbered c f
  refuse ChangedAlone f if (line_of c.template f).sets
  refuse LevelTooLow f if not (may_write level (line_of c.template f).mark)
  Ok x

-- The code that a value would be stored at. Order: 8, 12, 20, 9, 10.
unfoldable pub code_for : Contents → Level → ℕ → Value → Outcome ℕ
code_for c level f value = do
  x ← changeable c level f
  encode x.row f value

-- "A change rewrites the field and the check bytes of its pages, no other bit."
abbrev pub recoded_in : Sizes → List ℕ → Found → ℕ → List ℕ
recoded_in z image x code = image_of z (put_at (stream_number z image) x.at x.row.width code)

unfoldable pub rewritten : ℕ → List ℕ → Found → ℕ → Outcome (List ℕ)
rewritten kind image x code = do
  z ← image_sizes kind (length image)
  Ok (recoded_in z image x code)

-- ---- the change

-- The image with field f at a value. Order: check, 8, 12, 20, 9, 10.
unfoldable pub change : ℕ → List ℕ → Level → ℕ → Value → Outcome (List ℕ)
change kind image level f value = do
  c ← contents kind image
  code ← code_for c level f value
  rewritten kind image (field c f) code

-- ---- proposal and commit

-- "A proposal gives the present code, the code to be stored and its read-back value".
abbrev pub proposed_for : Found → ℕ → Outcome Proposal
proposed_for x code = do
  back ← decode x.row x.at code
  Ok (record { present = x.code; new = code; value = back })

-- A proposal "writes nothing; it is refused as the change would be".
unfoldable pub propose : ℕ → List ℕ → Level → ℕ → Value → Outcome Proposal
propose kind image level f value = do
  c ← contents kind image
  code ← code_for c level f value
  proposed_for (field c f) code

-- A field of a row can hold a code if it fits the field's bits, and a check would accept it.
unfoldable pub may_stand : Row → ℕ → Bool
may_stand row code = ltb code (2 ^ row.width) && is_ok (decode row 0 code)

-- Whether a new code may be put into field f in place of the present one. Order: 8, 12, 20, 19, 10.
unfoldable pub may_commit : Contents → Level → ℕ → ℕ → ℕ → Outcome (Unit {0})
may_commit c level f present new = do
  x ← changeable c level f
  refuse OtherCode f if not (eqb x.code present)
  refuse OutOfRange f if not (may_stand x.row new)

-- The image with field f at a new code, if the present
-- one is still there. Order: check, 8, 12, 20, 19, 10.
unfoldable pub commit : ℕ → List ℕ → Level → ℕ → ℕ → ℕ → Outcome (List ℕ)
commit kind image level f present new = do
  c ← contents kind image
  may_commit c level f present new
  rewritten kind image (field c f) new

-- ---- the answer of a proposal
