-- What is seen of the transactions of a block is what the serial run has.
use Rattle.std.proofs.Common.{◌≡◌, ◌∙◌, ℕ, Bool, true, false, List, map, All, ap, sym, subst}
use Rattle.std.proofs.lemmas.List.Elements.{All-push}
use Rattle.sol_base.specs.declared.key.Key.{Key}
use Rattle.sol_base.specs.declared.account.Account.{Account}
use Rattle.tx_report.specs.declared.outcome.Outcome.{Outcome}
use Rattle.account_store.specs.State.{at}
use Rattle.bank_law.specs.Job.{Job, JobEffects, keys}
use Rattle.bank_law.specs.Serial.{result, serial}
use Rattle.bank_core.specs.declared.origin.Origin.{Origin}
use Rattle.tx_exec.specs.declared.admitted.AdmittedBlock.{AdmittedBlock}
use Rattle.tx_exec.specs.AdmittedBlock.{job_of}
use Rattle.block_run.specs.declared.watching.Seen.{Seen}
use Rattle.block_run.specs.Watching.{IsSerial, seen_after}

-- one more that is as in the serial run
pub seen_kept : (job : Job) (start : Key → Account) (wanted : Bool) (position : ℕ) (outcome : Outcome) (seen : List Seen)
    → All (IsSerial job start) seen → outcome ≡ result job start position → All (IsSerial job start) (seen_after wanted position outcome seen)
seen_kept job start false position outcome seen all is = all
seen_kept job start true position outcome seen all is = All-push (IsSerial job start) seen (record { position = position; outcome = outcome }) all is

-- what a loan of the serial values comes to
pub came : (o q : Origin AdmittedBlock) (told : AdmittedBlock) (e : JobEffects) (position lent_at : ℕ) (values : List Account)
    → q ≡ o → o.told ≡ told → position ≡ lent_at → e ≡ (job_of told).effects position values
    → values ≡ map (serial (job_of q.told) (at q.start) lent_at) (keys (job_of q.told) lent_at)
    → e.outcome ≡ result (job_of told) (at o.start) position
came o q told e position lent_at values same is here effects lent =
    let by_origin = subst (λ (x : Origin AdmittedBlock). values ≡ map (serial (job_of x.told) (at x.start) lent_at) (keys (job_of x.told) lent_at)) same lent in
    let by_told = subst (λ (t : AdmittedBlock). values ≡ map (serial (job_of t) (at o.start) lent_at) (keys (job_of t) lent_at)) is by_origin in
    let by_place = subst (λ n. values ≡ map (serial (job_of told) (at o.start) n) (keys (job_of told) n)) (sym here) by_told in
    ap (λ (x : JobEffects). x.outcome) (effects ∙ ap ((job_of told).effects position) by_place)
