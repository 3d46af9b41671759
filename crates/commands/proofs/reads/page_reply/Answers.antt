use Rattle.commands.proofs.ReplyLaws.{page-is}
use Rattle.commands.proofs.reads.page_reply.Goals as goal

pub returns : goal.returns
returns c = page-is c.args.line.now c.args.room.now c.number_request.new.room c.args.digits.now c.spell.result c.spell.new.out c.in_ok-request.was c.number_request.ensures c.front-image.ensures c.page_bytes-page.ensures c.spell.ensures
