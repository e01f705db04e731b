-- "Well-formed" as the code asks it: the tables, from codes on; and the rest, whose tails go from messages on up to all of it.
use Rattle.model.specs.Store.{bytes}
use Rattle.model.specs.Rule.{Rule, both}
use Rattle.model.specs.Judge as Judge
use Rattle.model.specs.Bytes.{Memory}
use Rattle.lists.specs.Heads.{rule}

unfoldable pub tabled : Memory → Rule
tabled m = both (rule (Judge.codes bytes) m) (both (rule (Judge.clock bytes) m) (both (rule (Judge.faults bytes) m) (rule (Judge.zeros bytes) m)))

unfoldable pub mailed : Memory → Rule
mailed m = both (rule (Judge.messages bytes) m) (rule (Judge.running bytes) m)

unfoldable pub paged : Memory → Rule
paged m = both (rule (Judge.page_waits bytes) m) (both (rule (Judge.granted bytes) m) (mailed m))

unfoldable pub waited : Memory → Rule
waited m = both (rule (Judge.reasons bytes) m) (both (rule (Judge.message_waits bytes) m) (both (rule (Judge.semaphores bytes) m) (paged m)))

unfoldable pub linked : Memory → Rule
linked m =
    both (rule (Judge.listed bytes) m)
    (both (rule (Judge.used_once bytes) m) (both (rule (Judge.names bytes) m) (both (rule (Judge.waiting_bits bytes) m) (waited m))))
