-- How many locks positions have, how many of them are ready, and how many lanes a core has.
use Rattle.std.specs.Prelude.{ℕ, zero, suc, ◌+◌, ◌==◌, not, ◌&&◌, length}
use Rattle.bank_law.specs.Job.{Job}
use Rattle.bank_law.specs.Machine.{State, is_waiting, is_done, conflict, count_below}
use Rattle.bank_core.specs.declared.opening.TheConstants.{MAX_LANE_NUMBERS}

-- how many locks the first n positions have
abbrev pub locks_before : Job → ℕ → ℕ
locks_before job zero = 0
locks_before job (suc n) = length (job.locks n) + locks_before job n

-- the most lanes of a core (the project's own): a thread drives up to 16 of them
abbrev pub max_lane_numbers : ℕ
max_lane_numbers = MAX_LANE_NUMBERS

-- how many earlier conflicting positions are not done
abbrev pub left_before : Job → State → ℕ → ℕ
left_before job s i = count_below (λ j. conflict job j i && not (is_done (s.stage j))) i

-- how many positions are ready: each is waiting, and every earlier conflicting one is done
abbrev pub ready_count : Job → State → ℕ
ready_count job s =
    count_below (λ i. is_waiting (s.stage i) && (left_before job s i == 0)) job.count
