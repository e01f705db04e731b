use Rattle.std.proofs.Common.{rules}
use Rattle.model.specs.Mail as Mail
use Rattle.mail.proofs.move_message.Goals as goal

pub returns : goal.returns
unfolding Mail.move
returns c = search rules
