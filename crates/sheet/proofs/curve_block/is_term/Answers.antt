-- The exponent's code is the lowest bits, the coefficient's those above them.
use Rattle.sheet.proofs.Names.{◌≡◌, sym, ◌∙◌, true, false, ℕ, arith, and_mask, same_of, exponent-sound, coefficient-sound}
use Rattle.sheet.proofs.curve_block.is_term.Goals as goal

no : {A : Type 0} → false ≡ true → A
no e = absurd (let z : ◌≡◌ {A = ℕ} 0 1 = cc in omega arith)

pub judge-requires : goal.judge-requires
judge-requires c = rw c.term_exponent.ensures exponent-sound

pub returns-in-Err : goal.returns-in-Err
returns-in-Err c = no

pub judge-requires-2 : goal.judge-requires-2
judge-requires-2 c = rw c.term_coefficient.ensures coefficient-sound

pub returns-in-Err-judge : goal.returns-in-Err-judge
returns-in-Err-judge c = no

pub returns : goal.returns
returns c r =
    let a = c.args in
    let mask = and_mask a.both 7 in
    record {
      power = rw mask at (sym (same_of c.in_default.is (rw c.term_exponent.ensures at c.judge.ensures)));
      rising = rw mask at (sym c.exponent_follows.ensures ∙ r);
      factor = sym (same_of c.in_default-judge.is (rw c.term_coefficient.ensures at c.judge-2.ensures));
    }
