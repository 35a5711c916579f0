-- What a work promises of its effects, on values that fit (the project's own).
use Rattle.std.specs.Prelude.{◌≡◌, ℕ, ◌^◌, ◌<◌, ◌≤◌, true, if◌then◌else◌, List, [], ◌∷◌, length, All}
use Rattle.std.specs.List.{IsDistinct}
use Rattle.sol_base.specs.declared.key.Key.{Key}
use Rattle.sol_base.specs.declared.account.Account.{Account}
use Rattle.sol_base.specs.declared.lock.Lock.{Lock}
use Rattle.sol_base.specs.Accounts.{empty_account}
pub use Rattle.sol_base.specs.Accounts.{IsShort, AreShort, lamports_in}
pub use Rattle.account_store.specs.State.{lamports_under}
use Rattle.bank_law.specs.Job.{Job, same_key, has_key, keys, write_keys, declares}

-- an account without lamports is the empty one
abbrev pub IsSettled : Account → Type 0
IsSettled account = account.lamports ≡ 0 → account ≡ empty_account

abbrev pub AreSettled : List Account → Type 0
AreSettled accounts = All IsSettled accounts

-- the values that stand beside write locks
abbrev pub lent_for_writing : List Lock → List Account → List Account
lent_for_writing [] vs = []
lent_for_writing (lock ∷ locks) [] = []
lent_for_writing (lock ∷ locks) (v ∷ vs) =
    if lock.write then v ∷ lent_for_writing locks vs else lent_for_writing locks vs

-- The values on which a position may be performed: one for each lock, none too long, and together
-- fewer than 2^64 lamports.
pub record Fits (locks : List Lock) (vs : List Account) : Type 0 where
  pub one_each : length vs ≡ length locks
  pub short : AreShort vs
  pub supply : lamports_in vs < 2 ^ 64

-- the laws of a work
pub record IsLawful (job : Job) : Type 0 where
  -- the keys of one position's locks are distinct
  pub distinct : (i : ℕ) → i < job.count → IsDistinct same_key (keys job i)
  -- one account is written for each write lock
  pub one_each : (i : ℕ) (vs : List Account) → i < job.count → Fits (job.locks i) vs →
      length (job.effects i vs).written ≡ length (write_keys job i)
  -- no more lamports are written than were lent for writing
  pub no_more : (i : ℕ) (vs : List Account) → i < job.count → Fits (job.locks i) vs →
      lamports_in (job.effects i vs).written ≤ lamports_in (lent_for_writing (job.locks i) vs)
  -- no written account is too long
  pub short : (i : ℕ) (vs : List Account) → i < job.count → Fits (job.locks i) vs →
      AreShort (job.effects i vs).written
  -- where the values given have the empty account for one without lamports, so do the written ones
  pub settled : (i : ℕ) (vs : List Account) → i < job.count → Fits (job.locks i) vs →
      AreSettled vs → AreSettled (job.effects i vs).written

-- What a serial run begins with: the keys are distinct and among them are all that positions
-- declare;
-- the accounts have fewer than 2^64 lamports under them, and each account is short and settled.
pub record IsStart (job : Job) (start : Key → Account) (ks : List Key) : Type 0 where
  pub distinct : IsDistinct same_key ks
  pub all : (i : ℕ) (key : Key) → i < job.count → declares job i key ≡ true → has_key key ks ≡ true
  pub supply : lamports_under start ks < 2 ^ 64
  pub short : (key : Key) → IsShort (start key)
  pub settled : (key : Key) → IsSettled (start key)
