-- Laws of Note 5: a proposal and its commit are the change;
-- what a commit stores; and a commit after another change.
use Rattle.promises.proofs.Names.{◌≡◌, refl, sym, ap, ◌∙◌, subst, List, ℕ, ◌-◌, arith, length-set, get_or-set_same, Refusal, Outcome, Ok, Err, ◌>>=◌, good-same, bind-good, bind-refused, then-good}
use Rattle.promises.proofs.Names.{then-refused, Bytes, Value, Level, kept, Real, reads-back, Found, Contents, nothing, contents, field, recoded, Accepted, contents-accepted, with_field, Proposal, code_for}
use Rattle.promises.proofs.Names.{recoded_in, change, propose, commit, Changeable, code-found, change-unread, change-is, field-sound, stored-contents, propose-unread, commit-is, Committed, means-stands}
use Rattle.promises.proofs.Names.{stands-means, propose-is, commit-allowed, commit-other, commit-made, committed-contents, ProposedThenCommitted, tested, ProposalRefused, CommitStores, CommitAfterAnother}

-- ---- a proposal

module _ (kind : ℕ) (image : List ℕ) (level : Level) (f : ℕ) (v : Value) (bytes : Bytes image) (real : Real v) where
  module _ (c : Contents) (e : contents kind image ≡ Ok c) where
    abbrev a : Accepted kind image c
    a = contents-accepted kind image c e

    changes-as : change kind image level f v ≡ (code_for c level f v >>= λ code. Ok (recoded_in a.sizes image (field c f) code))
    changes-as = change-is kind image c a.sizes e a.sized level f v

    -- If the value has no code.
    module _ {r : Refusal} (h : code_for c level f v ≡ Err r) where
      not-proposed : propose kind image level f v ≡ Err r
      not-proposed = propose-is kind image c e level f v ∙ bind-refused _ h

      not-changed : change kind image level f v ≡ Err r
      not-changed = changes-as ∙ bind-refused _ h

    -- If the value has a code: the field can hold it, and it reads back what is kept.
    module _ {code : ℕ} (h : code_for c level f v ≡ Ok code) where
      abbrev proposal : Proposal
      proposal = record { present = (field c f).code; new = code; value = kept (field c f).row v }

      proposed : propose kind image level f v ≡ Ok proposal
      proposed =
          let (free, stored) = code-found c level f v code h in
          let back = reads-back (field c f).row f (field c f).at code v (field-sound kind image c a.sizes bytes e a.sized level f free) real stored in
          propose-is kind image c e level f v ∙ bind-good _ h ∙ bind-good _ back.1

      commits-it : commit kind image level f (field c f).code code ≡ Ok (recoded_in a.sizes image (field c f) code)
      commits-it =
          let (free, stored) = code-found c level f v code h in
          let back = reads-back (field c f).row f (field c f).at code v (field-sound kind image c a.sizes bytes e a.sized level f free) real stored in
          commit-is kind image level f (field c f).code code c a.sizes e a.sized
          ∙ then-good _ (commit-allowed c level f free code (means-stands (field c f).row code (field c f).at _ back.0 back.1))

      changes-it : change kind image level f v ≡ Ok (recoded_in a.sizes image (field c f) code)
      changes-it = changes-as ∙ bind-good _ h

abbrev committed_next : ℕ → List ℕ → Level → ℕ → Proposal → Outcome (List ℕ)
committed_next kind image level f p = commit kind image level f p.present p.new

pub proposed-then-committed : ProposedThenCommitted
proposed-then-committed kind image level f v bytes real = go (contents kind image) refl
  where
    coded : (c : Contents) → contents kind image ≡ Ok c → (o : Outcome ℕ) → code_for c level f v ≡ o → (propose kind image level f v >>= committed_next kind image level f) ≡ change kind image level f v
    coded c e (Err r) h = bind-refused (committed_next kind image level f) (not-proposed kind image level f v bytes real c e h) ∙ sym (not-changed kind image level f v bytes real c e h)
    coded c e (Ok code) h =
        bind-good (committed_next kind image level f) (proposed kind image level f v bytes real c e h)
        ∙ commits-it kind image level f v bytes real c e h ∙ sym (changes-it kind image level f v bytes real c e h)

    go : (o : Outcome Contents) → contents kind image ≡ o → (propose kind image level f v >>= committed_next kind image level f) ≡ change kind image level f v
    go (Err r) e = bind-refused (committed_next kind image level f) (propose-unread kind image level f v r e) ∙ sym (change-unread kind image level f v r e)
    go (Ok c) e = coded c e (code_for c level f v) refl

pub proposal-refused : ProposalRefused
proposal-refused kind image level f v bytes real = go (contents kind image) refl
  where
    coded : (c : Contents) → contents kind image ≡ Ok c → (o : Outcome ℕ) → code_for c level f v ≡ o → tested (propose kind image level f v) ≡ tested (change kind image level f v)
    coded c e (Err r) h = ap tested (not-proposed kind image level f v bytes real c e h) ∙ sym (ap tested (not-changed kind image level f v bytes real c e h))
    coded c e (Ok code) h = ap tested (proposed kind image level f v bytes real c e h) ∙ sym (ap tested (changes-it kind image level f v bytes real c e h))

    go : (o : Outcome Contents) → contents kind image ≡ o → tested (propose kind image level f v) ≡ tested (change kind image level f v)
    go (Err r) e = ap tested (propose-unread kind image level f v r e) ∙ sym (ap tested (change-unread kind image level f v r e))
    go (Ok c) e = coded c e (code_for c level f v) refl

-- ---- a commit

pub commit-stores : CommitStores
commit-stores kind image after c level f present new bytes e h =
    let m = commit-made kind image level f present new after h in
    let same : m.held ≡ c = good-same (sym m.accepted ∙ e) in
    let t : Committed c level f present new = subst (λ d. Committed d level f present new) same m.tested in
    let (v, means) = stands-means (field c f).row new t.stands (field c f).at in (
      v,
      means,
      ap (contents kind) (m.is ∙ ap (λ d. recoded_in m.sizes image (field d f) new) same)
          ∙ committed-contents kind image c m.sizes bytes e m.sized level f present new t v means,
    )

-- The field that a change has stored, in the contents of the changed image.
module _ (c : Contents) (level : Level) (f : ℕ) (h : Changeable c level f) (code : ℕ) (v : Value) where
  abbrev then-held : Contents
  then-held = with_field c (f - 1) (recoded (field c f) code v)

  code-then : (field then-held f).code ≡ code
  code-then = ap (λ (x : Found). x.code) (get_or-set_same c.fields (f - 1) (recoded (field c f) code v) nothing (omega (arith, h.least, h.most)))

  changeable-then : Changeable then-held level f
  changeable-then = record { least = h.least; most = omega (arith, h.most, length-set c.fields (f - 1) (recoded (field c f) code v)); free = h.free; may = h.may }

pub commit-after-another : CommitAfterAnother
commit-after-another kind image after c level f v code present new bytes real e coded other h =
    let a = contents-accepted kind image c e in
    let (free, stored) = code-found c level f v code coded in
    let made : after ≡ recoded_in a.sizes image (field c f) code = good-same (sym h ∙ changes-it kind image level f v bytes real c e coded) in
    let d : Contents = then-held c level f free code (kept (field c f).row v) in
    let holds : contents kind after ≡ Ok d = ap (contents kind) made ∙ stored-contents kind image c a.sizes bytes e a.sized level f free v real code stored in
    let b = contents-accepted kind after d holds in
    commit-is kind after level f present new d b.sizes holds b.sized
    ∙ then-refused _ (commit-other d level f (changeable-then c level f free code _) new present (λ p. other (sym (code-then c level f free code _) ∙ p)))
