-- Say what is broken: "Together the five are given exactly where 21 was". The table has no offending address exactly where the judge accepts. Assumes nothing.
use Rattle.std.specs.Prelude.{◌≡◌, true, List, ℕ, length}
use Rattle.model.specs.Told.Finding.{Nothing}
use Rattle.model.specs.Map.{memory_size, processor_list}
use Rattle.model.specs.Store.{bytes}
use Rattle.model.specs.Bytes.{lists, judged}
use Rattle.model.specs.Classes as Classes
use Rattle.laws.specs.Sentences.{◌and◌}
use Rattle.laws.specs.Tells.{Clear, clear_means_in, means_clear_in, first_clear, clear_first}
use Rattle.laws.specs.Met.{met}
use Rattle.laws.specs.Accepted.{judge_inv}
use Rattle.laws.specs.Judged.{inv_judge}
use Rattle.laws.specs.Cleared.{Clean, clean_inv}
use Rattle.laws.specs.Clears.{inv_clean}

-- ---- the table, sentence by sentence
classes_of : (m : List ℕ) → Clean m (met m processor_list) → Clear (Classes.classes bytes m (met m processor_list) (met m))
unfolding Classes.classes Classes.of_pages Classes.of_waits Classes.of_records Classes.of_tables Classes.of_counters
classes_of m c =
    let w = c.waits in
    means_clear_in _ (c.pages.used_once and c.pages.uses_end and tt)
    and means_clear_in _ (w.queues_end and w.waiting_bits and w.reasons and w.message_waits and w.semaphores and w.page_waits and tt)
    and means_clear_in _ (c.records.labels and c.records.granted and c.records.messages and tt)
    and means_clear_in _ (c.tables.codes and c.tables.faults and tt)
    and means_clear_in _ (c.counters.clock and c.counters.running and tt)
    and tt

of_classes : (m : List ℕ) → Clear (Classes.classes bytes m (met m processor_list) (met m)) → Clean m (met m processor_list)
unfolding Classes.classes Classes.of_pages Classes.of_waits Classes.of_records Classes.of_tables Classes.of_counters
of_classes m c =
    let p = clear_means_in _ c.0 in
    let w = clear_means_in _ c.1.0 in
    let r = clear_means_in _ c.1.1.0 in
    let t = clear_means_in _ c.1.1.1.0 in
    let n = clear_means_in _ c.1.1.1.1.0 in
    record {
      pages = record { used_once = p.0; uses_end = p.1.0 };
      waits = record {
        queues_end = w.0;
        waiting_bits = w.1.0;
        reasons = w.1.1.0;
        message_waits = w.1.1.1.0;
        semaphores = w.1.1.1.1.0;
        page_waits = w.1.1.1.1.1.0;
      };
      records = record { labels = r.0; granted = r.1.0; messages = r.1.1.0 };
      tables = record { codes = t.0; faults = t.1.0 };
      counters = record { clock = n.0; running = n.1.0 };
    }

-- ---- both ways
pub judged_nothing : (m : List ℕ) → length m ≡ memory_size → judged m ≡ true → Classes.told_of bytes m ≡ Nothing
unfolding Classes.told_of
judged_nothing m s e =
    first_clear (Classes.classes bytes m (met m processor_list) (met m)) (classes_of m (inv_clean m (lists m processor_list) (lists m) (judge_inv m s e)))

pub nothing_judged : (m : List ℕ) → length m ≡ memory_size → Classes.told_of bytes m ≡ Nothing → judged m ≡ true
unfolding Classes.told_of
nothing_judged m s e = inv_judge (clean_inv m (of_classes m (clear_first (Classes.classes bytes m (met m processor_list) (met m)) e)) s)
