-- Keys as Solana writes them: numbers in base 58, with the digits of Bitcoin.
use Rattle.std.specs.Prelude.{ℕ, ◌+◌, ◌*◌, List, codes, fold, map, nat_eq}
use Rattle.std.specs.List.{position_or_len}

-- the digits for 0 to 57, among which are no 0, O, I and l
abbrev pub base58_digits : List ℕ
base58_digits = codes "123456789ABCDEFGHJKLMNPQRSTUVWXYZabcdefghijkmnopqrstuvwxyz"

-- the number that digits of a base are, the greatest first
abbrev pub number_in : ℕ → List ℕ → ℕ
number_in base digits = fold (λ number digit. number * base + digit) 0 digits

-- the number that a text in base 58 is
abbrev pub base58_number : List ℕ → ℕ
base58_number text =
    number_in 58 (map (λ letter. position_or_len (nat_eq letter) base58_digits) text)
