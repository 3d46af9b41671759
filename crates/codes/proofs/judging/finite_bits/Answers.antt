use Rattle.codes.proofs.Names.{refl, eq-eqb, ne_eqb, arith, and_mask}
use Rattle.codes.proofs.FloatLaws.{finite-bits, not-finite-bits}
use Rattle.codes.proofs.judging.finite_bits.Goals as goal

pub returns-then-code-lt2139095040 : goal.returns-then-code-lt2139095040
returns-then-code-lt2139095040 c = let code = c.args.code in let small = rw (and_mask code 31) at c.if-code-lt2139095040.true in rw (ne_eqb code 0xffff_ffff (λ e. omega arith), finite-bits code small)

pub returns-then-code-eq4294967295 : goal.returns-then-code-eq4294967295
returns-then-code-eq4294967295 c = rw (eq-eqb c.args.code 0xffff_ffff c.if-code-eq4294967295.true) refl

pub returns : goal.returns
returns c = let code = c.args.code in rw (ne_eqb code 0xffff_ffff c.if-code-eq4294967295.false, not-finite-bits code (rw (and_mask code 31) at c.if-code-lt2139095040.false)) refl
