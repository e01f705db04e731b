use Rattle.deleting.proofs.Laws.{returned_sender}
use Rattle.deleting.proofs.Leaving.return_message.Goals as goal

pub returns-in-Some : goal.returns-in-Some
returns-in-Some c =
    returned_sender c.args.m.now c.notify.new.m c.args.self.name.0 c.args.message.0 c.word-size.result c.word-size.ensures c.word.result c.of-note.result.name.0
    c.if-size-ge-MARK.false c.word.ensures c.of-note.ensures.0 c.in-Some.sender c.notify.ensures c.in-Some.ensures
