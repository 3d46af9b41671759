-- Laws of what a reading uses: the lent points and the ends of the
-- span, in an image after a build and any changes and commits.
use Rattle.promises.proofs.Names.{◌≡◌, sym, ap, ◌∙◌, subst, List, [], map, ℕ, ◌≤◌, le_refl, arith, ℤ, Ok, good-same, Bytes, pack, image-bytes, Domain, last_field, span-listed, Calibration, Contents, contents}
use Rattle.promises.proofs.Names.{pair_in, pairs_in, points, segment_in, segments_in, segments, domain_in, accepted-reads, Sheet, pairs_lent, listed, build, least, greatest, Lendable, kept_pair, domain_lent, Alteration}
use Rattle.promises.proofs.Names.{RealAlterations, altered, held, whole, least_in, greatest_in}
use Rattle.promises.proofs.Written.{built, written-and-read-again}
use Rattle.promises.proofs.AfterAlterations.{same_kind, after-alterations, held-calibration}

-- The lent points, each as its step keeps it, and their domain.
pub record KeptLent (domain : Domain) (lentPoints : List ℤ) (c : Contents) : Type 0 where
  pub keeps_points : points c ≡ map kept_pair (pairs_lent lentPoints)
  pub keeps_domain : domain_in c.calibration ≡ domain_lent domain (pairs_lent lentPoints)
  pub keeps_segments : segments c ≡ []

pub kept-lent : (kind : ℕ) (buffer : List ℕ) (sheet : Sheet) (text : List ℕ) (domain : Domain) (lentPoints : List ℤ) (image : List ℕ) (alterations : List Alteration) (readingKind : ℕ) (c : Contents) →
    Lendable sheet → RealAlterations alterations → build kind buffer sheet text domain lentPoints ≡ Ok image → contents readingKind (altered image alterations) ≡ Ok c →
    KeptLent domain lentPoints c
kept-lent kind buffer sheet text domain lentPoints image alterations readingKind c lendable real made reads =
    let b = built kind buffer sheet text (listed domain lentPoints) image made in
    let bytes : Bytes image = subst Bytes b.made (image-bytes b.sizes (pack b.pieces)) in
    let w = written-and-read-again kind buffer sheet text (listed domain lentPoints) image lendable tt made in
    let last : List ℕ = altered image alterations in
    let after : contents kind last ≡ Ok (held kind w.0 alterations) = after-alterations kind image w.0 alterations bytes real w.1 in
    let k : readingKind ≡ kind = same_kind kind readingKind last (held kind w.0 alterations) c after reads in
    let h : c ≡ held kind w.0 alterations = good-same (sym reads ∙ ap (λ (n : ℕ). contents n last) k ∙ after) in
    let same : c.calibration ≡ w.0.calibration = ap (λ (x : Contents). x.calibration) h ∙ held-calibration kind w.0 alterations in
    record {
      keeps_points = ap (λ (q : Calibration). map pair_in (pairs_in q)) same ∙ w.2.same_points;
      keeps_domain = ap domain_in same ∙ w.2.same_domain;
      keeps_segments = ap (λ (q : Calibration). map segment_in (segments_in q)) same ∙ w.2.same_segments;
    }

-- e and f as read.
pub ends_read : (kind : ℕ) (image : List ℕ) (c : Contents) → contents kind image ≡ Ok c → (least_in kind image ≡ least c) × (greatest_in kind image ≡ greatest c)
ends_read kind image c e =
    let read = (accepted-reads kind image c e).fields in
    let many : 11 ≤ last_field c.template = span-listed c.template (le_refl 11) in
    (ap whole (read 10 (omega arith) (omega (arith, many))), ap whole (read 11 (omega arith) many))
