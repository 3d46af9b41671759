-- Laws of what a check judges and reads return, from the crates below.
use Rattle.promises.proofs.Names.{◌≡◌, sym, subst, List, ℕ, Refusal, Outcome, Ok, Err, ◌>>=◌, good-same, good-bind, no_value_lem, Contents, contents, agree, Summary, summary, check, accepted-reads}
use Rattle.promises.proofs.Names.{refused-reads, BitsBehindNotJudged, ReadsEach, ReadsNone, ReadByIndex}

pub bits-behind-not-judged : BitsBehindNotJudged
bits-behind-not-judged = agree

-- What a check gives depends on the contents, and so does its refusal.
pub check-holds : (kind : ℕ) (image : List ℕ) (s : Summary) → check kind image ≡ Ok s → (c : Contents) × (contents kind image ≡ Ok c) × (summary c ≡ s)
unfolding check
check-holds kind image s e = let (c, h, g) = good-bind (contents kind image) (λ c. Ok (summary c)) s e in (c, h, good-same g)

check-refuses : (kind : ℕ) (image : List ℕ) (r : Refusal) → check kind image ≡ Err r → contents kind image ≡ Err r
unfolding check
check-refuses kind image r e = go (contents kind image) e
  where
    go : (o : Outcome Contents) → (o >>= λ c. Ok (summary c)) ≡ Err r → o ≡ Err r
    go (Ok c) h = no_value_lem (sym h)
    go (Err q) h = cc

pub read-by-index : ReadByIndex
read-by-index kind image = (each, none)
  where
    each : (s : Summary) → check kind image ≡ Ok s → (c : Contents) × (contents kind image ≡ Ok c) × ReadsEach kind image s c
    each s e =
        let (c, h, g) = check-holds kind image s e in
        (c, h, subst (λ t. ReadsEach kind image t c) g (accepted-reads kind image c h))

    none : (r : Refusal) → check kind image ≡ Err r → ReadsNone kind image r
    none r e = refused-reads kind image r (check-refuses kind image r e)
