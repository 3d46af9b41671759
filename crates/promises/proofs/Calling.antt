-- Laws of calls in order: what they answer and leave, and demand 3 for them.
use Rattle.promises.proofs.Names.{◌≡◌, sym, ap, ◌∙◌, subst, List, ℕ, ℤ, written_said, Domain, Sheet, build, Dash, take_reading, Answers, Lendable, Alteration, RealAlterations, altered, made, Answered}
use Rattle.promises.proofs.Distance.{certificate-distance}

-- A build, alterations and a reading.
pub answered : (kind : ℕ) (buffer : List ℕ) (sheet : Sheet) (text : List ℕ) (domain : Domain) (points : List ℤ) (list : List Alteration) (readingKind : ℕ) (v : ℤ) (dash : Dash)
    (r : Answers) (built image : List ℕ) → Lendable sheet → RealAlterations list →
    written_said r.built built ≡ build kind buffer sheet text domain points → built ≡ made kind buffer sheet text domain points →
    image ≡ altered built list → r.reading ≡ take_reading readingKind image v dash →
    Answered kind buffer sheet text domain points list readingKind v dash image r
answered kind buffer sheet text domain points list readingKind v dash r built image lendable real b bs i t =
    let done = made kind buffer sheet text domain points in
    let b' : written_said r.built done ≡ build kind buffer sheet text domain points = subst (λ l. written_said r.built l ≡ build kind buffer sheet text domain points) bs b in
    let i' : image ≡ altered done list = i ∙ ap (λ l. altered l list) bs in
    record {
      build_said = b';
      bytes = i';
      shown = t;
      distance = λ q K straight accepted shows. rw i'
          (certificate-distance kind buffer sheet text domain points done list readingKind v dash q K lendable real straight
          (sym b' ∙ ap (λ w. written_said w done) accepted) (rw i' at (sym t ∙ shows)));
    }
