use Rattle.std.proofs.Common.{◌∙◌}
use Rattle.comparing.proofs.Laws.{mail_begin, mail_on, mail_off, mail_left}
use Rattle.comparing.proofs.letters.same_mail.Goals as goal

pub loop-p-init : goal.loop-p-init
loop-p-init c =
    mail_begin c.args.first.now c.args.second.now c.args.a c.args.b _ _ _ _ _ _ (c.into_iter-p-iterator.ensures.into_iter_gives ∙ c.pages-p-items.ensures) c.at-2.ensures.0
    c.at-2.ensures.1 c.pages-others.ensures c.at.ensures.0 c.at.ensures.1

pub returns-then-not-same_message : goal.returns-then-not-same_message
returns-then-not-same_message c =
    mail_off _ _ _ _ _ _ _ _ _ c.loop-p.invariant c.in-Some.ensures.steps c.in-Some-next.ensures.steps _ c.same_message.ensures c.if-not-same_message.true

pub loop-p-preserved : goal.loop-p-preserved
loop-p-preserved c =
    mail_on _ _ _ _ _ _ _ _ _ c.loop-p.invariant c.in-Some.ensures.steps c.in-Some-next.ensures.steps _ c.same_message.ensures c.if-not-same_message.false

pub returns : goal.returns
returns c = mail_left _ _ _ _ _ _ c.loop-p.invariant c.in-None.ensures.steps.0 c.over.ensures
