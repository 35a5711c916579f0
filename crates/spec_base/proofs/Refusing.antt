-- What holds of each refusal of the parts of a reading holds of those of the whole.
use Rattle.std.proofs.Common.{◌≡◌, ℕ, List, length, take, drop, Result, Ok, Err, Bool, true, false, refl, if◌then◌else◌}
use Rattle.std.specs.Prelude.{IfErr, nat_lt}
use Rattle.std.specs.Int.{Width, byte_len}
use Rattle.spec_base.specs.Reading.{◌>>=◌, field_at, number_at, ok_if, place, read_as}

-- one after the other
pub bind_refuses : {A B E : Type 0} (P : E → Type 0) (r : Result A E) (f : A → Result B E) → IfErr r P → ((x : A) → r ≡ Ok x → IfErr (f x) P) → IfErr (r >>= f) P
bind_refuses P (Ok x) f h k = k x refl
bind_refuses P (Err e) f h k = h

-- a test, and what follows where it fails
pub if_refuses : {A E : Type 0} (P : E → Type 0) (test : Bool) (e : E) (r : Result A E) → P e → IfErr r P → IfErr (if test then Err e else r) P
if_refuses P true e r h k = h
if_refuses P false e r h k = k

pub ok_if_refuses : {X E : Type 0} (P : E → Type 0) (test : Bool) (e : E) (x : X) → P e → IfErr (ok_if test e x) P
ok_if_refuses P true e x h = tt
ok_if_refuses P false e x h = h

-- ---- fields
pub field_refuses : {E : Type 0} (P : E → Type 0) (truncated : ℕ → E) (total count : ℕ) (bytes : List ℕ) → ((at : ℕ) → P (truncated at)) → IfErr (field_at truncated total count bytes) P
unfolding field_at
field_refuses P truncated total count bytes h = if_refuses P (nat_lt (length bytes) count) (truncated (place total bytes)) (Ok (take count bytes, drop count bytes)) (h (place total bytes)) tt

pub number_refuses : {E : Type 0} (P : E → Type 0) (truncated : ℕ → E) (width : Width) (total : ℕ) (bytes : List ℕ) → ((at : ℕ) → P (truncated at)) → IfErr (number_at truncated width total bytes) P
unfolding number_at
number_refuses P truncated width total bytes h = bind_refuses P (field_at truncated total (byte_len width) bytes) _ (field_refuses P truncated total (byte_len width) bytes h) (λ field is. tt)

pub read_as_refuses : {X Y E : Type 0} (P : E → Type 0) (shape : X → Y) (one : List ℕ → Result (X × List ℕ) E) (bytes : List ℕ) → IfErr (one bytes) P → IfErr (read_as shape one bytes) P
unfolding read_as
read_as_refuses P shape one bytes h = bind_refuses P (one bytes) _ h (λ read is. tt)
