use Rattle.build.proofs.Names.{◌≡◌, drop, unfit}
use Rattle.build.proofs.plan.check_characters.Given as goal

abbrev pub invariant-loop-c : goal.invariant-loop-c
invariant-loop-c l = unfit (drop l.c-index l.text) ≡ unfit l.text
