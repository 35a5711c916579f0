-- What is granted is within what the caller has.
use Rattle.std.proofs.Common.{◌≡◌, ℕ, ◌+◌, ◌<◌, ◌⊎◌, inl, inr, Bool, true, false, not, List, [], ◌∷◌, length, map, Option, Some, None, Ok, refl, subst, cond, if◌then◌else◌}
use Rattle.std.specs.Prelude.{◌==◌, ◌&&◌, ◌||◌, position, is_none, unwrap_or}
use Rattle.std.specs.List.{list_any, position_from}
use Rattle.std.proofs.lemmas.List.{length-map}
use Rattle.std.proofs.lemmas.List.Elements.{All-nil, All-cons}
use Rattle.std.proofs.lemmas.List.Quantifiers.{position-Some}
use Rattle.std.proofs.lemmas.Bool.{or_right, eqb-true, and_parts, or_cases}
use Rattle.spec_base.specs.Reading.{◌>>=◌}
use Rattle.sol_base.specs.declared.key.Key.{Key}
use Rattle.sol_base.specs.declared.lock.Meta.{Meta}
use Rattle.sol_base.specs.Keys.{same_key}
use Rattle.sol_base.specs.Metas.{is_listed, is_listed_signer, is_listed_writable, AreInRange}
use Rattle.cpi_calls.specs.declared.request.KeyMeta.{KeyMeta}
use Rattle.cpi_calls.specs.declared.request.CallRequest.{CallRequest}
use Rattle.cpi_calls.specs.declared.grant.Granted.{Granted}
use Rattle.cpi_calls.specs.Rights.{if_listed, place_of, is_missing, meta_of, may_sign, exceeds, or_missing, or_escalation, program_found, rights_of, IsGiven, IsWithin}

-- a place that was found is one of the keys, and the caller lists it
listed-place : (keys : List Key) (caller : List Meta) (key : Key) (o : Option ℕ) (place : ℕ) → position (λ other. same_key other key) keys ≡ o → if_listed caller o ≡ Some place → place < length keys
listed-place keys caller key None place found h = absurd (cc)
listed-place keys caller key (Some at) place found h = by_case (is_listed caller at) h
  where
    by_case : (b : Bool) → (if b then Some at else None) ≡ Some place → place < length keys
    by_case true g = let e : at ≡ place = cc in subst (λ (n : ℕ). n < length keys) e (position-Some (λ other. same_key other key) keys at key found).0
    by_case false g = absurd (cc)

pub place-within : (keys : List Key) (caller : List Meta) (key : Key) (place : ℕ) → place_of keys caller key ≡ Some place → place < length keys
place-within keys caller key place h = listed-place keys caller key (position (λ other. same_key other key) keys) place refl h

-- a test that passes nowhere
abbrev Nowhere : {X : Type 0} → (X → Bool) → List X → Type 0
Nowhere test [] = Unit {0}
Nowhere test (x ∷ xs) = (test x ≡ false) × Nowhere test xs

nowhere : {X : Type 0} (test : X → Bool) (i : ℕ) (xs : List X) → position_from test i xs ≡ None → Nowhere test xs
nowhere test i [] h = tt
nowhere test i (x ∷ xs) h = (both.0, nowhere test (i + 1) xs both.1)
  where
    split : (b : Bool) (rest : Option ℕ) → cond b (Some i) rest ≡ None → (b ≡ false) × (rest ≡ None)
    split true rest g = absurd (cc)
    split false rest g = (refl, g)

    both : (test x ≡ false) × (position_from test (i + 1) xs ≡ None)
    both = split (test x) (position_from test (i + 1) xs) h

there : (o : Option ℕ) → is_none o ≡ false → o ≡ Some (unwrap_or o 0)
there None h = absurd (cc)
there (Some place) h = refl

in-range : (keys : List Key) (caller : List Meta) (asked : List KeyMeta) → Nowhere (is_missing keys caller) asked → AreInRange (length keys) (map (meta_of keys caller) asked)
in-range keys caller [] all = All-nil _
in-range keys caller (x ∷ xs) all =
    All-cons (λ (meta : Meta). meta.index < length keys) (meta_of keys caller x) (map (meta_of keys caller) xs)
    (place-within keys caller x.key _ (there (place_of keys caller x.key) all.0))
    (in-range keys caller xs all.1)

may-write : (signer writable sign write : Bool) → ((signer && not sign) || (writable && not write)) ≡ false → writable ≡ true → write ≡ true
may-write signer writable sign true h asks = refl
may-write true true true false h asks = absurd (cc)
may-write true true false false h asks = absurd (cc)
may-write false true sign false h asks = absurd (cc)
may-write signer false sign false h asks = absurd (cc)

may-sign : (signer writable sign write : Bool) → ((signer && not sign) || (writable && not write)) ≡ false → signer ≡ true → sign ≡ true
may-sign signer writable true write h asks = refl
may-sign true writable false write h asks = absurd (cc)
may-sign false writable false write h asks = absurd (cc)

-- what may be written may be so by the caller
writes : (keys signers : List Key) (caller : List Meta) (place : ℕ) (asked : List KeyMeta)
    → Nowhere (exceeds keys signers caller) asked
    → is_listed_writable (map (meta_of keys caller) asked) place ≡ true → is_listed_writable caller place ≡ true
writes keys signers caller place [] all h = absurd (cc)
writes keys signers caller place (x ∷ xs) all h = elim (or_cases _ _ h) [
  | inl here ↦ let p = and_parts _ _ here
      in subst (λ (n : ℕ). is_listed_writable caller n ≡ true) (eqb-true _ _ p.0)
      (may-write x.signer x.writable (may_sign signers caller x.key (meta_of keys caller x).index)
      (is_listed_writable caller (meta_of keys caller x).index) all.0 p.1)
  | inr later ↦ writes keys signers caller place xs all.1 later
]

here-given : (a b c : Bool) → a ≡ true → b ≡ true → ((a && b) || c) ≡ true
here-given true true c one two = refl
here-given true false c one two = absurd (cc)
here-given false b c one two = absurd (cc)

signs : (keys signers : List Key) (caller : List Meta) (place : ℕ) (asked : List KeyMeta)
    → Nowhere (exceeds keys signers caller) asked
    → is_listed_signer (map (meta_of keys caller) asked) place ≡ true
    → IsGiven keys caller signers asked place ⊎ (is_listed_signer caller place ≡ true)
signs keys signers caller place [] all h = absurd (cc)
signs keys signers caller place (x ∷ xs) all h =
    let index : ℕ = (meta_of keys caller x).index in
    let given_here : Bool = list_any (λ signer. same_key signer x.key) signers in
    let given_later : Bool = list_any (λ (y : KeyMeta). ((meta_of keys caller y).index == place) && list_any (λ signer. same_key signer y.key) signers) xs in
    elim (or_cases ((index == place) && x.signer) (is_listed_signer (map (meta_of keys caller) xs) place) h) [
      | inl here ↦ let p = and_parts (index == place) x.signer here in
          elim (or_cases given_here (is_listed_signer caller index) (may-sign x.signer x.writable (may_sign signers caller x.key index) (is_listed_writable caller index) all.0 p.1)) [
            | inl given ↦ inl (here-given (index == place) given_here given_later p.0 given)
            | inr own ↦ inr (subst (λ (n : ℕ). is_listed_signer caller n ≡ true) (eqb-true index place p.0) own)
          ]
      | inr later ↦ elim (signs keys signers caller place xs all.1 later) [
        | inl given ↦ inl (or_right ((index == place) && given_here) given_later given)
        | inr own ↦ inr own
      ]
    ]

within-of : (request : CallRequest) (keys : List Key) (caller : List Meta) (granted : Granted)
    (missing program exceeded : Option ℕ) → position_from (is_missing keys caller) 0 request.metas ≡ missing
    → place_of keys caller request.program ≡ program
    → position_from (exceeds keys request.signers caller) 0 request.metas ≡ exceeded
    → (or_missing missing (map (meta_of keys caller) request.metas) >>=
    (λ metas. program_found (length request.metas) program >>=
    (λ place. or_escalation exceeded >>= (λ allowed. Ok (record { program = place; metas = metas })))))
    ≡ Ok granted
    → IsWithin request keys caller granted
within-of request keys caller granted None (Some place) None all found fits h =
    let e : (let g : Granted = record { program = place; metas = map (meta_of keys caller) request.metas } in g) ≡ granted = cc in
    subst (IsWithin request keys caller) e (record {
      program = place-within keys caller request.program place found;
      range = in-range keys caller request.metas (nowhere (is_missing keys caller) 0 request.metas all);
      count = length-map request.metas (meta_of keys caller);
      writes = λ at granted_it. writes keys request.signers caller at request.metas (nowhere (exceeds keys request.signers caller) 0 request.metas fits) granted_it;
      signs = λ at granted_it. signs keys request.signers caller at request.metas (nowhere (exceeds keys request.signers caller) 0 request.metas fits) granted_it;
    })
within-of request keys caller granted (Some i) program exceeded all found fits h = absurd (cc)
within-of request keys caller granted None None exceeded all found fits h = absurd (cc)
within-of request keys caller granted None (Some place) (Some i) all found fits h = absurd (cc)

-- what is granted is within what the caller has
pub rights-within : (request : CallRequest) (keys : List Key) (caller : List Meta) (granted : Granted) → rights_of request keys caller ≡ Ok granted → IsWithin request keys caller granted
unfolding rights_of
rights-within request keys caller granted h =
    within-of request keys caller granted (position_from (is_missing keys caller) 0 request.metas)
    (place_of keys caller request.program)
    (position_from (exceeds keys request.signers caller) 0 request.metas) refl refl refl h
