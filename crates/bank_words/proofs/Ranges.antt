-- The numbers of a command that is read are in their ranges.
use Rattle.std.proofs.Common.{◌≡◌, ℕ, ◌&&◌, Bool, true, false, List, [], ◌∷◌, nat_le, Option, Some, None, Result, Ok, Err, IfOk, MatchResult, refl, ap, codes, arith}
use Rattle.std.specs.Prelude.{option_and_then}
use Rattle.std.specs.Str.Parse.{digits_value}
use Rattle.std.proofs.lemmas.Bool.{and_parts, leb-true}
use Rattle.sol_base.specs.Limits.{max_lanes, max_senders, max_transactions}
use Rattle.bank_words.specs.Options.{Text, Use, has_use, given, uses_in}
use Rattle.command_parts.specs.Numbers.{is_number_text, number_in}
use Rattle.bank_words.specs.Numbers.{lanes_in, senders_in, seed_in, count_in}
use Rattle.bank_words.specs.Commands.{no_options, produce_options, replay_options, make_options, produce_from, replay_from, make_from, produce_by, replay_by, make_by, command_in, IsFrom, IsInRange}
use Rattle.bank_words.specs.Reading.{Explains}
use Rattle.bank_words.specs.declared.command.Command.{Command}
use Rattle.bank_words.specs.declared.command.WordsFault.{WordsFault}
use Rattle.bank_words.proofs.Commands.{Named, named, is_produce, is_replay, is_show, is_make, is_asm, is_list, is_other}

abbrev number_of : ℕ → Option ℕ → ℕ
number_of other None = other
number_of other (Some n) = n

number_range : (low high n : ℕ) (text : Text) → number_in low high text ≡ Some n → IsFrom low high n
number_range low high n text e = go (is_number_text text) refl (nat_le low value && nat_le value high) refl
  where
    value : ℕ
    value = digits_value 10 text

    go : (b : Bool) → is_number_text text ≡ b → (c : Bool) → (nat_le low value && nat_le value high) ≡ c → IsFrom low high n
    go true f true g =
        let parts = and_parts (nat_le low value) (nat_le value high) g in
        let same : value ≡ n = ap (number_of n) (rw (f, g) at e) in
        rw (← same) (leb-true low value parts.0, leb-true value high parts.1)
    go true f false g = absurd (cc (rw (f, g) at e))
    go false f c g = absurd (cc (rw f at e))

lanes_range : (text : Option Text) (n : ℕ) → lanes_in text ≡ Some n → IsFrom 1 max_lanes n
lanes_range None n e = let same : 1 ≡ n = ap (number_of n) e in rw (← same) (omega arith, omega arith)
lanes_range (Some text) n e = number_range 1 max_lanes n text e

senders_range : (text : Option Text) (n : ℕ) → senders_in text ≡ Some n → IsFrom 1 max_senders n
senders_range None n e = let same : 1 ≡ n = ap (number_of n) e in rw (← same) (omega arith, omega arith)
senders_range (Some text) n e = number_range 1 max_senders n text e

count_range : (text : Option Text) (n : ℕ) → count_in text ≡ Some n → IsFrom 1 max_transactions n
count_range None n e = absurd (cc)
count_range (Some text) n e = number_range 1 max_transactions n text e

-- the command that is made, where one is
abbrev Ranged : Option Command → Type 0
Ranged None = Unit {0}
Ranged (Some command) = IsInRange command

ranged_produce : (lanes senders : Option Text) → Ranged (produce_from lanes senders)
ranged_produce lanes senders = go (lanes_in lanes) refl (senders_in senders) refl
  where
    go : (l : Option ℕ) → lanes_in lanes ≡ l → (s : Option ℕ) → senders_in senders ≡ s → Ranged (produce_from lanes senders)
    go None e s f = rw e tt
    go (Some l) e None f = rw (e, f) tt
    go (Some l) e (Some s) f = rw (e, f) (lanes_range lanes l e, senders_range senders s f)

ranged_replay : (lanes : Option Text) → Ranged (replay_from lanes)
ranged_replay lanes = go (lanes_in lanes) refl
  where
    go : (l : Option ℕ) → lanes_in lanes ≡ l → Ranged (replay_from lanes)
    go None e = rw e tt
    go (Some l) e = rw e (lanes_range lanes l e)

ranged_make : (seed count : Option Text) (run : Bool) (lanes : Option Text) → Ranged (make_from seed count run lanes)
ranged_make seed count run lanes = go (seed_in seed) refl (count_in count) refl (lanes_in lanes) refl
  where
    go : (n : Option ℕ) → seed_in seed ≡ n → (c : Option ℕ) → count_in count ≡ c → (l : Option ℕ) → lanes_in lanes ≡ l → Ranged (make_from seed count run lanes)
    go None e c f l g = rw e tt
    go (Some n) e None f l g = rw (e, f) tt
    go (Some n) e (Some c) f None g = rw (e, f, g) tt
    go (Some n) e (Some c) f (Some l) g = rw (e, f, g) (count_range count c f, lanes_range lanes l g)

ranged_by : (by : List Use → Option Command) → ((uses : List Use) → Ranged (by uses)) → (uses : Option (List Use)) → Ranged (option_and_then by uses)
ranged_by by each None = tt
ranged_by by each (Some uses) = each uses

ranged_name : (name : Text) (words : List Text) → Named name → Ranged (command_in (name ∷ words))
ranged_name name words (is_produce e) = rw e (ranged_by produce_by (λ uses. ranged_produce (given (codes "lanes") uses) (given (codes "senders") uses)) (uses_in produce_options words))
ranged_name name words (is_replay e) = rw e (ranged_by replay_by (λ uses. ranged_replay (given (codes "lanes") uses)) (uses_in replay_options words))
ranged_name name words (is_show e) = rw e (ranged_by _ (λ uses. tt) (uses_in no_options words))
ranged_name name words (is_make e) = rw e
    (ranged_by make_by (λ uses. ranged_make (given (codes "number") uses) (given (codes "count") uses)
    (has_use (codes "run") uses) (given (codes "lanes") uses)) (uses_in make_options words))
ranged_name name words (is_asm e) = rw e (ranged_by _ (λ uses. tt) (uses_in no_options words))
ranged_name name words (is_list e) = rw e (ranged_by _ (λ uses. tt) (uses_in no_options words))
ranged_name name words (is_other f1 f2 f3 f4 f5 f6) = rw (f1, f2, f3, f4, f5, f6) tt

ranged : (words : List Text) → Ranged (command_in words)
ranged [] = tt
ranged (name ∷ words) = ranged_name name words (named name)

-- the numbers of a command that is answered
pub ranges : (words : List Text) (result : Result Command WordsFault)
    → MatchResult result (λ command. command_in words ≡ Some command)
    (λ fault. Explains fault (command_in words)) → IfOk result IsInRange
ranges words (Ok command) e = rw e at (ranged words)
ranges words (Err fault) e = tt
