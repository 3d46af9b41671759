-- Document 02, Note 5: proposal, then commit.
use Rattle.std.specs.Prelude.{◌≡◌, List, ℕ}
use Rattle.refusal.specs.Outcome.{Ok, Err, ◌>>=◌, tested}
use Rattle.refusal.specs.declared.Refusal.TheVariants.{OtherCode}
use Rattle.memory.specs.Bits.{Bytes}
use Rattle.codes.specs.declared.Value.{Value}
use Rattle.templates.specs.declared.Level.{Level}
use Rattle.codes.specs.Rules.{decode}
use Rattle.codes.specs.Stored.{Real}
use Rattle.layout.specs.Contents.{Contents}
use Rattle.layout.specs.Image.{contents, field}
use Rattle.change.specs.Change.{code_for, change, propose, commit}
use Rattle.promises.specs.Alterations.{replaced}

-- "Proposal and immediate commit leave the bytes that
-- a change would", and are refused as it would be.
abbrev pub ProposedThenCommitted : Type 0
ProposedThenCommitted =
    (kind : ℕ) (image : List ℕ) (level : Level) (f : ℕ) (v : Value) → Bytes image → Real v →
    (propose kind image level f v >>= λ p. commit kind image level f p.present p.new) ≡ change kind image level f v

-- A proposal is refused exactly if the change is, with the same number and place.
abbrev pub ProposalRefused : Type 0
ProposalRefused =
    (kind : ℕ) (image : List ℕ) (level : Level) (f : ℕ) (v : Value) → Bytes image → Real v →
    tested (propose kind image level f v) ≡ tested (change kind image level f v)

-- An accepted commit makes the field's code the new one,
-- with the value that it means, all else unchanged.
abbrev pub CommitStores : Type 0
CommitStores =
    (kind : ℕ) (image after : List ℕ) (c : Contents) (level : Level) (f present new : ℕ) → Bytes image →
    contents kind image ≡ Ok c → commit kind image level f present new ≡ Ok after →
    (v : Value) × (decode (field c f).row (field c f).at new ≡ Ok v) × (contents kind after ≡ Ok (replaced c f new v))

-- A commit is accepted only if the present code is still there: after an
-- accepted change of that field to another code it is refused with 19.
abbrev pub CommitAfterAnother : Type 0
CommitAfterAnother =
    (kind : ℕ) (image after : List ℕ) (c : Contents) (level : Level) (f : ℕ) (v : Value) (code present new : ℕ) → Bytes image → Real v →
    contents kind image ≡ Ok c → code_for c level f v ≡ Ok code → (code ≡ present → ⊥) → change kind image level f v ≡ Ok after →
    commit kind after level f present new ≡ Err (OtherCode f)
