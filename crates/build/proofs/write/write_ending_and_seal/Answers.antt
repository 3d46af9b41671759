use Rattle.build.proofs.Names.{ap, ◌∙◌, image_of}
use Rattle.build.proofs.write.write_ending_and_seal.Goals as goal

pub lay_ending-requires : goal.lay_ending-requires
lay_ending-requires c = record { room = c.requires.room; by_index = c.requires.by_index }

pub seal_pages-requires : goal.seal_pages-requires
seal_pages-requires c = c.lay_ending.ensures.free.whole

pub returns : goal.returns
returns c = c.seal_pages.ensures ∙ ap (image_of c.args.sizes) c.lay_ending.ensures.stream
