-- Fresh start and well-formed memory: "Fresh takes clock line and divider, clears .., then: ..".
use Rattle.std.specs.Prelude.{ℕ, zero, suc, ◌+◌, ◌-◌, ◌*◌, Bool, true, false, cond, eqb, ltb}
use Rattle.model.specs.Store.{Store}
use Rattle.model.specs.Map.{place, page_size, pair, topped, a_word, interrupt_page, kernel_pages, first_control, control_pages, link, label}
use Rattle.model.specs.Map.{clock_line, divider, free_list, free_semaphore, processor_list, code_word, built_in_codes, first_unused, first_outer}
use Rattle.model.specs.Map.{last_line, first_name, first_priority, start_address}
use Rattle.model.specs.Address.{store, write, zeroed}
use Rattle.model.specs.Processor.{hand_back, starting_at}
use Rattle.model.specs.Turn.{runs}
use Rattle.model.specs.Instruction.{built_in}

-- "26 fresh .. value out of range": "divider 1-255, line 16-47"
unfoldable pub startable : ℕ → ℕ → Bool
startable line d = cond (ltb line first_outer) false (cond (ltb last_line line) false (cond (eqb d 0) false (cond (ltb a_word d) false true)))

module _ (S : Store) where
  -- "clears page 0, pages 4-10 and 236-255"
  unfoldable pub cleared : S.M → S.M
  cleared m =
      zeroed S (control_pages * page_size)
      (zeroed S (kernel_pages * page_size) (zeroed S page_size m (place 0 0)) (place interrupt_page 0))
      (place first_control 0)

  -- "Fresh takes clock line and divider"
  unfoldable pub timed : S.M → ℕ → ℕ → S.M
  timed m line d = write S (write S m clock_line line) divider d

  -- "processor 1, priority 1, LR 2752 on page 236, running"
  unfoldable pub first_processor : S.M → S.M
  first_processor m =
      runs S
      (write S (hand_back S (store S m first_control label (pair first_priority first_name)) first_control (starting_at start_address 0)) processor_list first_control)
      first_control

  -- "237-255 free in order": each of n pages from p on links to the next
  unfoldable pub chained : ℕ → S.M → ℕ → S.M
  chained zero m p = m
  chained (suc n) m p = chained n (store S m p link (p + 1)) (p + 1)

  unfoldable pub freed : S.M → S.M
  freed m = chained (control_pages - 2) (write S (write S m free_list (first_control + 1)) free_semaphore (control_pages - 1)) (first_control + 1)

  -- "codes 0-14 built in": the first c
  unfoldable pub all_built_in : ℕ → S.M → S.M
  all_built_in zero m = m
  all_built_in (suc c) m = all_built_in c (write S m (code_word c) (topped built_in 0))

  -- "page 9 word 0 is 1"
  unfoldable pub started : S.M → ℕ → ℕ → S.M
  started m line d = write S (all_built_in built_in_codes (freed (first_processor (timed (cleared m) line d)))) first_unused 1
