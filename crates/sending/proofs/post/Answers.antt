use Rattle.sending.proofs.Laws.{posted_message}
use Rattle.sending.proofs.post.Goals as goal

pub returns-in-Some : goal.returns-in-Some
returns-in-Some c =
    posted_message c.args.m.now c.write_message.new.m c.deliver.new.m c.args.page.0 c.args.note.name.0 c.args.note.flag c.args.address c.args.size
    c.in-Some.receiver
    c.wrapped.result c.in-Some.ensures c.wrapped.ensures.0 c.write_message.ensures c.deliver.ensures
