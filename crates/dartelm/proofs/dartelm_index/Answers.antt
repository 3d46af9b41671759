use Rattle.dartelm.proofs.Names.{refl}
use Rattle.dartelm.proofs.Answering.{answers-written}
use Rattle.dartelm.proofs.dartelm_index.Goals as goal

pub returns : goal.returns
returns c = answers-written c.args.buffer.now _ c.make_index.result c.wrote.ensures c.make_index.ensures.0 c.make_index.ensures.1 refl
