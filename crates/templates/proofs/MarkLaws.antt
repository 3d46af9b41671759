-- Laws of the marks of the lines, by one computed test over a run of fields.
use Rattle.templates.proofs.Names.{◌≡◌, refl, ap, ◌∙◌, Bool, ℕ, ◌+◌, ◌-◌, ◌≤◌, arith, T, eqb, Mark, Id, Cal, Usr, Template, line_of}
use Rattle.codes.proofs.Table.{each, at}

abbrev pub mark_number : Mark → ℕ
mark_number Id = 0
mark_number Cal = 1
mark_number Usr = 2

abbrev pub same_mark : Mark → Mark → Bool
same_mark m n = eqb (mark_number m) (mark_number n)

agreed : (m n : Mark) → T (same_mark m n) → m ≡ n
agreed Id Id t = refl
agreed Cal Cal t = refl
agreed Usr Usr t = refl
agreed Id Cal t = absurd t
agreed Id Usr t = absurd t
agreed Cal Id t = absurd t
agreed Cal Usr t = absurd t
agreed Usr Id t = absurd t
agreed Usr Cal t = absurd t

-- Fields `first` to `first + n` all have one mark, if the test holds.
pub mark-in : (t : Template) (m : Mark) (first n : ℕ) → T (each (λ k. same_mark m (line_of t (first + k)).mark) n) →
    (f : ℕ) → first ≤ f → f ≤ first + n → m ≡ (line_of t f).mark
mark-in t m first n test f lo hi =
    let e : first + (f - first) ≡ f = omega arith in
    agreed m _ (at (λ k. same_mark m (line_of t (first + k)).mark) n (f - first) test (omega arith)) ∙ ap (λ (g : ℕ). (line_of t g).mark) e
