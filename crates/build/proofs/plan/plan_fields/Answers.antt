use Rattle.build.proofs.Coding.{coded_none, coded-all}
use Rattle.build.proofs.plan.plan_fields.Goals as goal

pub code_basic-requires : goal.code_basic-requires
code_basic-requires c = let p = c.requires in coded_none p.0 p.1

pub code_own-requires : goal.code_own-requires
code_own-requires c = c.code_basic.ensures.done _ c.in_ok-behind.was

pub returns : goal.returns
returns c = coded-all (c.code_own.ensures.done _ c.in_ok-precision.was) c.fields_listed.ensures
