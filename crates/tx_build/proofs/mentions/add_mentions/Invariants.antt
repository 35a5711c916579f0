use Rattle.std.proofs.Common.{◌≡◌, ◌∷◌, ◌++◌, map, take}
use Rattle.tx_build.specs.Mentions.{program_mention, account_mention}
use Rattle.tx_build.proofs.mentions.add_mentions.Given as goal

-- the program and the accounts so far
abbrev pub invariant-loop-account : goal.invariant-loop-account
invariant-loop-account l = l.mentions ≡ l.fn.mentions ++ program_mention l.instruction.program ∷ map account_mention (take l.account-index l.instruction.accounts)
