-- The early causes of a batch, one position after the other.
use Rattle.std.proofs.Common.{◌≡◌, ℕ, ◌+◌, ◌<◌, ◌≤◌, Bool, false, ◌||◌, List, [], ◌∷◌, ◌++◌, length, take, map, get_or, refl, sym, ap, ap₂, ◌∙◌, append_assoc, length-append, zero-add, arith, Option, Some, None, Result, Ok, is_ok, subst}
use Rattle.std.specs.Prelude.{if◌then◌else◌, option_to_list, replicate}
use Rattle.std.specs.Result.{result_ok}
use Rattle.std.specs.List.{AllByRecursion, IsDistinct, filter_map, cons_option, enumerate_from}
use Rattle.std.specs.List.Sorted.{IsPermutation, IsStrictlySortedBy}
use Rattle.std.proofs.lemmas.Bool.{or_from}
use Rattle.std.proofs.lemmas.Bool.Decides.{same_from_decides}
use Rattle.std.proofs.lemmas.List.{get_or_at, get_or-map, map-append, length-map, take_all, take_at, take_more}
use Rattle.std.proofs.lemmas.List.Sorted.{IsPermutation-sym}
use Rattle.std.proofs.lemmas.Map.Keys.{IsDistinct-IsPermutation, IsDistinct-from_sorted}
use Rattle.std.proofs.lemmas.List.Elements.{filter_map-append}
use Rattle.std.proofs.lemmas.List.Folds.{list_any-append}
use Rattle.std.proofs.lemmas.List.FromFn.{get_or-enumerate_from, length-enumerate_from}
use Rattle.std.proofs.Math.Bool.{or-false}
use Rattle.sol_base.specs.declared.key.Hash32.{Hash32}
use Rattle.sol_base.specs.Keys.{hash_cmp, same_hash}
use Rattle.sol_base.proofs.KeyLaws.{same_hash-Decides}
use Rattle.message_codec.specs.declared.message.Loaded.{Loaded}
use Rattle.message_codec.specs.declared.message.Tx.{Tx}
use Rattle.message_codec.specs.declared.parsed.Parsed.{Parsed}
use Rattle.message_codec.specs.declared.parsed.Parsed.TheVariants.{Good}
use Rattle.status_cache.specs.Recent.{has_hash}
use Rattle.status_cache.proofs.SoughtLaws.{same_name}
use Rattle.admission.specs.declared.chosen.Chosen.{Chosen}
use Rattle.admission.specs.declared.refusal.Refusal.{Refusal}
use Rattle.admission.specs.declared.weighing.Weighed.{Weighed}
use Rattle.admission.specs.Admission.{Start, budgeted_once, is_name, refusal_in, sifted, standing_name, standing_names, stands}
use Rattle.admission.specs.Weighing.{is_among, is_repeated, name_of, names_of, sifted_among, sifted_when}

-- ---- names
pub name_stands : (start : Start) (tx : Tx) (name : Hash32) (loaded : Loaded) → stands start tx name ≡ Ok loaded → standing_name start (Good tx name) ≡ Some name
name_stands start tx name loaded e = ap (λ (r : Result Loaded Refusal). if is_ok r then Some name else None) e

any_name : (o : Option Hash32) (q : Hash32) → has_hash (cons_option o []) q ≡ is_name o q
any_name None q = refl
any_name (Some name) q = or-false (same_hash name q)

-- the names of one position more
pub one_name_more : (start : Start) (done : List Parsed) (x : Parsed) (q : Hash32)
    → has_hash (standing_names start (done ++ x ∷ [])) q
    ≡ (has_hash (standing_names start done) q || is_name (standing_name start x) q)
one_name_more start done x q =
    ap (λ hashes. has_hash hashes q) (filter_map-append (standing_name start) done (x ∷ []))
    ∙ list_any-append (λ one. same_hash one q) (standing_names start done) (cons_option (standing_name start x) [])
    ∙ ap (λ b. has_hash (standing_names start done) q || b) (any_name (standing_name start x) q)

-- ---- one position
pub sifted_once : (start : Start) (is_before : Hash32 → Bool) (position : ℕ) (tx : Tx) (name : Hash32)
    (loaded : Loaded) → stands start tx name ≡ Ok loaded
    → sifted start is_before position (Good tx name) ≡ budgeted_once (is_before name) position tx name loaded
unfolding sifted
sifted_once start is_before position tx name loaded e = rw e refl

-- ---- all positions
pub enumerate-append : {X : Type 0} (n : ℕ) (xs ys : List X) → enumerate_from n (xs ++ ys) ≡ enumerate_from n xs ++ enumerate_from (n + length xs) ys
enumerate-append n [] ys = ap (λ m. enumerate_from m ys) (omega arith)
enumerate-append n (x ∷ xs) ys =
    let e : n + 1 + length xs ≡ n + length (x ∷ xs) = omega arith in
    ap (λ more. (n, x) ∷ more) (enumerate-append (n + 1) xs ys ∙ ap (λ m. enumerate_from (n + 1) xs ++ enumerate_from m ys) e)

pub enumerate-push : {X : Type 0} (xs : List X) (x : X) → enumerate_from 0 (xs ++ x ∷ []) ≡ enumerate_from 0 xs ++ (length xs, x) ∷ []
enumerate-push xs x =
    let e : 0 + length xs ≡ length xs = omega arith in
    enumerate-append 0 xs (x ∷ []) ∙ ap (λ m. enumerate_from 0 xs ++ (m, x) ∷ []) e

-- ---- the names before each position
-- the first positions are told whether their messages stand before them
pub record AreTold (batch : List Weighed) (i : ℕ) (tests : List Bool) (has : Hash32 → Bool) : Type 0 where
  pub told : tests ≡ map (is_repeated batch) (take i (enumerate_from 0 batch))
  pub named : (q : Hash32) → has q ≡ has_hash (names_of (take i batch)) q

pub told_more : (batch : List Weighed) (i : ℕ) (tests tests' : List Bool) (has next : Hash32 → Bool) → AreTold batch i tests has → (x : Weighed) → i < length batch → x ≡ get_or batch i x
    → (b : Bool) → b ≡ is_among has (name_of x) → ((q : Hash32) → next q ≡ (has q || is_name (name_of x) q)) → tests' ≡ tests ++ b ∷ [] → AreTold batch (i + 1) tests' next
told_more batch i tests tests' has next so_far x l is b found names put =
    let within : i < length (enumerate_from 0 batch) = rw (length-enumerate_from 0 batch) l in
    let entry : get_or (enumerate_from 0 batch) i (i, x) ≡ (i, x) = get_or-enumerate_from 0 batch i (i, x) l ∙ (λ j. (zero-add i j, sym is j)) in
    let here : is_repeated batch (i, x) ≡ b = ap (λ (test : Hash32 → Bool). is_among test (name_of x)) (λ j q. sym (so_far.named q) j) ∙ sym found in
    record {
      told =
          put ∙ ap (λ (bs : List Bool). bs ++ b ∷ []) so_far.told
          ∙ ap (λ a. map (is_repeated batch) (take i (enumerate_from 0 batch)) ++ a ∷ []) (sym here)
          ∙ sym (ap (map (is_repeated batch)) (take_more (enumerate_from 0 batch) i (i, x) within ∙ ap (λ e. take i (enumerate_from 0 batch) ++ e ∷ []) entry)
          ∙ map-append (is_repeated batch) (take i (enumerate_from 0 batch)) ((i, x) ∷ []));
      named = λ q.
          names q
          ∙ ap (λ a. a || is_name (name_of x) q) (so_far.named q)
          ∙ sym (ap (λ hashes. has_hash (names_of hashes) q) (take_more batch i x l ∙ ap (λ e. take i batch ++ e ∷ []) (sym is))
          ∙ ap (λ hashes. has_hash hashes q) (filter_map-append name_of (take i batch) (x ∷ []))
          ∙ list_any-append (λ one. same_hash one q) (names_of (take i batch)) (cons_option (name_of x) [])
          ∙ ap (λ a. has_hash (names_of (take i batch)) q || a) (any_name (name_of x) q));
    }

pub told_all : (batch : List Weighed) (i : ℕ) (tests : List Bool) (has : Hash32 → Bool) → AreTold batch i tests has → length batch ≤ i → tests ≡ map (is_repeated batch) (enumerate_from 0 batch)
told_all batch i tests has so_far over =
    let long : length (enumerate_from 0 batch) ≤ i = rw (length-enumerate_from 0 batch) over in
    so_far.told ∙ ap (map (is_repeated batch)) (take_all i (enumerate_from 0 batch) long)

-- ---- names that stand once
names_single : (o : Option Hash32) → cons_option o [] ≡ option_to_list o
names_single None = refl
names_single (Some name) = refl

-- the names of one position more
pub names_more : {X : Type 0} (name : X → Option Hash32) (batch : List X) (i : ℕ) (x : X) → i < length batch
    → x ≡ get_or batch i x → filter_map name (take (i + 1) batch)
    ≡ filter_map name (take i batch) ++ option_to_list (name x)
names_more {X} name batch i x below is =
    ap (filter_map name) (take_more batch i x below ∙ ap (λ (y : X). take i batch ++ y ∷ []) (sym is))
    ∙ filter_map-append name (take i batch) (x ∷ [])
    ∙ ap (λ (l : List Hash32). filter_map name (take i batch) ++ l) (names_single (name x))

same_hash-flips : (a b : Hash32) → same_hash a b ≡ same_hash b a
same_hash-flips a b = same_from_decides (same_hash a b) (same_hash b a) (same_hash-Decides a b) (λ t. sym ((same_hash-Decides b a).0 t), λ e. (same_hash-Decides b a).1 (sym e))

-- names are distinct where they ascend once they are sorted
pub distinct_sorted : (names sorted : List Hash32) → IsPermutation names sorted → IsStrictlySortedBy hash_cmp sorted → IsDistinct same_hash names
distinct_sorted names sorted moved up =
    IsDistinct-IsPermutation same_hash same_hash-flips sorted names (IsPermutation-sym names sorted moved)
    (subst (λ (test : Hash32 → Hash32 → Bool). IsDistinct test sorted) (λ i a b. same_name a b i) (IsDistinct-from_sorted hash_cmp sorted up))

-- a name that stands once is none of those before it
stands_once : (names : List Hash32) (name : Hash32) (more : List Hash32) → IsDistinct same_hash (names ++ name ∷ more) → has_hash names name ≡ false
unfolding IsDistinct
stands_once [] name more d = refl
stands_once (n ∷ ns) name more d = or_from (same_hash n name) (has_hash ns name) (at_name ns d.0) (stands_once ns name more d.1)
  where
    at_name : (ms : List Hash32) → AllByRecursion (λ q. same_hash n q ≡ false) (ms ++ name ∷ more) → same_hash n name ≡ false
    at_name [] all = all.0
    at_name (m ∷ ms) all = at_name ms all.1

not_before : (before after : List Hash32) (o : Option Hash32) → IsDistinct same_hash (before ++ cons_option o after) → is_among (has_hash before) o ≡ false
not_before before after None d = refl
not_before before after (Some name) d = stands_once before name after d

none_behind : (done left : List Weighed) → IsDistinct same_hash (names_of (done ++ left)) → map (is_repeated (done ++ left)) (enumerate_from (length done) left) ≡ replicate (length left) false
none_behind done [] d = refl
none_behind done (x ∷ xs) d =
    let split = append_assoc done (x ∷ []) xs in
    let long : length (done ++ x ∷ []) ≡ length done + 1 = length-append done (x ∷ []) in
    let rest = none_behind (done ++ x ∷ []) xs (subst (λ (l : List Weighed). IsDistinct same_hash (names_of l)) (sym split) d) in
    let here : is_repeated (done ++ x ∷ xs) (length done, x) ≡ false =
    ap (λ (l : List Weighed). is_among (has_hash (names_of l)) (name_of x)) (take_at done (x ∷ xs) (length done) refl)
    ∙ not_before (names_of done) (names_of xs) (name_of x) (subst (IsDistinct same_hash) (filter_map-append name_of done (x ∷ xs)) d) in
    ap₂ (λ (b : Bool) (bs : List Bool). b ∷ bs) here
    (ap₂ (λ (l : List Weighed) (n : ℕ). map (is_repeated l) (enumerate_from n xs)) (sym split) (sym long) ∙ rest)

-- where all names are distinct, none is repeated
pub none_repeated : (batch : List Weighed) → IsDistinct same_hash (names_of batch) → replicate (length batch) false ≡ map (is_repeated batch) (enumerate_from 0 batch)
none_repeated batch d = sym (none_behind [] batch d)

-- ---- the batch parted
-- the first positions are sifted
pub record AreSifted (batch done left : List Weighed) (standing : List Chosen) (causes : List (Option Refusal)) : Type 0 where
  pub all : done ++ left ≡ batch
  pub stand : standing ≡ filter_map (λ entry. result_ok (sifted_among batch entry)) (enumerate_from 0 done)
  pub caused : causes ≡ map (λ entry. refusal_in (sifted_among batch entry)) (enumerate_from 0 done)

pub cause_count : (batch done left : List Weighed) (standing : List Chosen) (causes : List (Option Refusal)) → AreSifted batch done left standing causes → length causes ≡ length done
cause_count batch done left standing causes so_far = ap length so_far.caused ∙ simp (length-map, length-enumerate_from)

module _ (batch done left more : List Weighed) (standing : List Chosen) (causes : List (Option Refusal)) (so_far : AreSifted batch done left standing causes) (x : Weighed) (split : left ≡ x ∷ more)
    (told : List Bool) (are_told : told ≡ map (is_repeated batch) (enumerate_from 0 batch)) where
  whole : done ++ x ∷ more ≡ batch
  whole = ap (λ (ls : List Weighed). done ++ ls) (sym split) ∙ so_far.all

  below : length done < length batch
  below = let w = ap length whole in let a = length-append done (x ∷ more) in omega (arith, w, a)

  pub has_place : length causes < length told
  has_place =
      let n = cause_count batch done left standing causes so_far in
      let t : length told ≡ length batch = ap length are_told ∙ simp (length-map, length-enumerate_from) in
      let b = below in
      omega (arith, n, t, b)

  told_here : (d : Bool) → get_or told (length causes) d ≡ is_repeated batch (length done, x)
  told_here d =
      let within : length done < length (enumerate_from 0 batch) = rw (length-enumerate_from 0 batch) below in
      let entry : get_or (enumerate_from 0 batch) (length done) (length done, x) ≡ (length done, x) =
      get_or-enumerate_from 0 batch (length done) (length done, x) below
      ∙ (λ j. (
        zero-add (length done) j,
        (ap (λ (ls : List Weighed). get_or ls (length done) x) (sym whole)
            ∙ get_or_at done x more x (length done) refl) j,
      )) in
      ap (λ n. get_or told n d) (cause_count batch done left standing causes so_far)
      ∙ ap (λ (bs : List Bool). get_or bs (length done) d) are_told
      ∙ get_or-map (is_repeated batch) (enumerate_from 0 batch) (length done) (length done, x) d within
      ∙ ap (is_repeated batch) entry

  module _ (d repeated : Bool) (is_told : repeated ≡ get_or told (length causes) d) (found : Result Chosen Refusal) (is_found : found ≡ sifted_when repeated x) where
    here : sifted_among batch (length done, x) ≡ found
    here = ap (λ b. sifted_when b x) (sym (told_here d) ∙ sym is_told) ∙ sym is_found

    pub sifted_more : (standing' : List Chosen) (causes' : List (Option Refusal))
        → standing' ≡ standing ++ cons_option (result_ok found) [] → causes' ≡ causes ++ refusal_in found ∷ []
        → AreSifted batch (done ++ x ∷ []) more standing' causes'
    sifted_more standing' causes' s c = record {
      all = append_assoc done (x ∷ []) more ∙ whole;
      stand =
          s ∙ ap (λ (cs : List Chosen). cs ++ cons_option (result_ok found) []) so_far.stand
          ∙ ap (λ (r : Result Chosen Refusal). filter_map (λ entry. result_ok (sifted_among batch entry)) (enumerate_from 0 done) ++ cons_option (result_ok r) []) (sym here)
          ∙ sym (ap (filter_map (λ entry. result_ok (sifted_among batch entry))) (enumerate-push done x)
          ∙ filter_map-append (λ entry. result_ok (sifted_among batch entry)) (enumerate_from 0 done)
          ((length done, x) ∷ []));
      caused =
          c ∙ ap (λ (cs : List (Option Refusal)). cs ++ refusal_in found ∷ []) so_far.caused
          ∙ ap (λ (r : Result Chosen Refusal). map (λ entry. refusal_in (sifted_among batch entry)) (enumerate_from 0 done) ++ refusal_in r ∷ []) (sym here)
          ∙ sym (ap (map (λ entry. refusal_in (sifted_among batch entry))) (enumerate-push done x)
          ∙ map-append (λ entry. refusal_in (sifted_among batch entry)) (enumerate_from 0 done)
          ((length done, x) ∷ []));
    }
