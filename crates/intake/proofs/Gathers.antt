-- What the tickets of all senders carry, and where it comes to lie.
use Rattle.std.proofs.Common.{◌≡◌, ◌≢◌, ℕ, zero, suc, ◌+◌, ◌%◌, ◌<◌, ◌≤◌, List, [], ◌∷◌, ◌++◌, length, map, set, get_or, filter, take, Some, None, Bool, true, false, cond, eqb, eq-eqb, ne_eqb, refl, sym, ap, ◌∙◌, subst, arith, All, IfOk, Ok, Result, append-nil, append_assoc}
use Rattle.std.specs.List.{range_with_len}
use Rattle.std.proofs.lemmas.List.{get_or-map, get_or-set_other, get_or-set_same, length-map, map-append, map_more}
use Rattle.std.proofs.lemmas.List.Elements.{All-cons, All-head, All-map, All-nil, All-tail, filter-append}
use Rattle.std.proofs.lemmas.List.FromFn.{get_or-map-range_with_len, get_or-range_with_len, length-map-range_with_len, length-range_with_len}
use Rattle.std.proofs.lemmas.Option.{same_Some}
use Rattle.std.proofs.lemmas.Simd.{map-map}
use Rattle.std.proofs.Math.Nat.{mod-lt, mod-one}
use mathlib.Core.Logic.{dite}
use native.Mathlib.Decide.{ℕ_discrete, dec_le}
use Rattle.sol_base.specs.declared.memory.OutOfMemory.{OutOfMemory}
use Rattle.message_codec.specs.declared.parsed.Parsed.{Parsed}
use Rattle.message_codec.specs.Parsing.{parsed_of}
use Rattle.intake.specs.declared.gathering.Arrival.{Arrival}
use Rattle.intake.specs.declared.ring.Intake.{Intake}
use Rattle.intake.specs.declared.seats.SendSeat.{SendSeat}
use Rattle.intake.specs.declared.ticket.Ticket.{Ticket}
use Rattle.intake.specs.Seats.{sender_of, sent_by}
use Rattle.intake.specs.Tickets.{of}
use Rattle.intake.specs.Gathering.{CarriesShares, HasSentShare, arrival_of, arrived_of, carried, parsed_at, positions, share_of, times}
use Rattle.intake.specs.Layout.{LeadsTo, LeadsToParsed, place_of}
use Rattle.intake.proofs.Numbers.{range_more}

-- the position of a ticket
abbrev pub positions_in : List Ticket → List ℕ
positions_in tickets = map (λ (t : Ticket). t.position) tickets

-- a share, one position longer
pub share_more : (n senders s : ℕ) → share_of (n + 1) senders s ≡ share_of n senders s ++ cond (eqb (n % senders) s) (n ∷ []) []
share_more n senders s = ap (filter (λ p. eqb (p % senders) s)) (range_more n) ∙ filter-append (λ p. eqb (p % senders) s) (range_with_len 0 n) (n ∷ [])

cond_length : (b : Bool) (x : ℕ) (xs : List ℕ) (n : ℕ) → length xs ≤ n → length (cond b (x ∷ xs) xs) ≤ suc n
cond_length true x xs n h = omega (arith, h)
cond_length false x xs n h = omega (arith, h)

filter_length : (f : ℕ → Bool) (xs : List ℕ) → length (filter f xs) ≤ length xs
filter_length f [] = omega arith
filter_length f (x ∷ xs) = cond_length (f x) x (filter f xs) (length xs) (filter_length f xs)

pub share_length : (n senders s : ℕ) → length (share_of n senders s) ≤ n
share_length n senders s = let l = length-range_with_len 0 n in let f = filter_length (λ p. eqb (p % senders) s) (range_with_len 0 n) in omega (arith, l, f)

pub share_own : (n senders s : ℕ) → n % senders ≡ s → share_of (n + 1) senders s ≡ share_of n senders s ++ n ∷ []
share_own n senders s own = share_more n senders s ∙ ap (λ (b : Bool). share_of n senders s ++ cond b (n ∷ []) []) (eq-eqb (n % senders) s own)

pub share_other : (n senders s : ℕ) → n % senders ≢ s → share_of (n + 1) senders s ≡ share_of n senders s
share_other n senders s other = share_more n senders s ∙ ap (λ (b : Bool). share_of n senders s ++ cond b (n ∷ []) []) (ne_eqb (n % senders) s other) ∙ append-nil (share_of n senders s)

-- what a seat has sent, as the share grows
pub sent_length : (wires : List (List ℕ)) (sent : List Ticket) (n senders s : ℕ) → map carried sent ≡ map (parsed_at wires) (share_of n senders s) → length sent ≤ n
sent_length wires sent n senders s is =
    let a : length (map carried sent) ≡ length sent = length-map sent carried in
    let b : length (map (parsed_at wires) (share_of n senders s)) ≡ length (share_of n senders s) = length-map (share_of n senders s) (parsed_at wires) in
    let c = ap length is in
    omega (arith, a, b, c, share_length n senders s)

pub sent_more : (wires : List (List ℕ)) (sent more : List Ticket) (t : Ticket) (n senders s : ℕ)
    → map carried sent ≡ map (parsed_at wires) (share_of n senders s) → more ≡ sent ++ t ∷ []
    → carried t ≡ parsed_at wires n → n % senders ≡ s
    → map carried more ≡ map (parsed_at wires) (share_of (n + 1) senders s)
sent_more wires sent more t n senders s is pushed has own =
    ap (map carried) pushed ∙ map-append carried sent (t ∷ []) ∙ ap (λ l. l ++ carried t ∷ []) is ∙ ap (λ x. map (parsed_at wires) (share_of n senders s) ++ x ∷ []) has
    ∙ sym (map-append (parsed_at wires) (share_of n senders s) (n ∷ [])) ∙ ap (map (parsed_at wires)) (sym (share_own n senders s own))

pub sent_same : (wires : List (List ℕ)) (sent : List Ticket) (n senders s : ℕ)
    → map carried sent ≡ map (parsed_at wires) (share_of n senders s) → n % senders ≢ s
    → map carried sent ≡ map (parsed_at wires) (share_of (n + 1) senders s)
sent_same wires sent n senders s is other =
    is ∙ ap (map (parsed_at wires)) (sym (share_other n senders s other))

-- a fact of what each sender's tickets carry is one of all tickets
without_first : (P : ℕ × Parsed → Type 0) (t : Ticket) (rest : List Ticket) (b : Bool) → All P (map carried (cond b (t ∷ rest) rest)) → All P (map carried rest)
without_first P t rest true h = All-tail P (carried t) (map carried rest) h
without_first P t rest false h = h

each_carries : (P : ℕ → ℕ × Parsed → Type 0) (ts : List Ticket) → ((s : ℕ) → All (P s) (map carried (of ts s))) → All (λ (t : Ticket). P t.sender (carried t)) ts
each_carries P [] all = All-nil _
each_carries P (t ∷ ts) all =
    let first : All (P t.sender) (map carried (t ∷ of ts t.sender)) = subst
    (λ (b : Bool). All (P t.sender) (map carried (cond b (t ∷ of ts t.sender) (of ts t.sender))))
    (eq-eqb t.sender t.sender refl) (all t.sender) in
    All-cons (λ (t : Ticket). P t.sender (carried t)) t ts
    (All-head (P t.sender) (carried t) (map carried (of ts t.sender)) first)
    (each_carries P ts (λ s. without_first (P s) t (of ts s) (eqb t.sender s) (all s)))

-- what is true of each ticket
abbrev pub IsFair : List (List ℕ) → ℕ → Ticket → Type 0
IsFair wires senders t = (t.position < length wires) × (t.position % senders ≡ t.sender) × (t.parsed ≡ parsed_of (get_or wires t.position []))

abbrev pub FairAt : List (List ℕ) → ℕ → ℕ → ℕ × Parsed → Type 0
FairAt wires senders s x = (x.0 < length wires) × (x.0 % senders ≡ s) × (x.1 ≡ parsed_of (get_or wires x.0 []))

below_count : (n : ℕ) → All (λ p. p < n) (range_with_len 0 n)
below_count n i d lt = let l = length-range_with_len 0 n in let g = get_or-range_with_len 0 n i d (omega (arith, l, lt)) in omega (arith, g, l, lt)

in_share : (n senders s : ℕ) (xs : List ℕ) → All (λ p. p < n) xs → All (λ p. (p < n) × (p % senders ≡ s)) (filter (λ p. eqb (p % senders) s) xs)
in_share n senders s [] all = All-nil _
in_share n senders s (x ∷ xs) all =
    let P : ℕ → Type 0 = λ p. (p < n) × (p % senders ≡ s) in
    let rest : List ℕ = filter (λ p. eqb (p % senders) s) xs in
    let others : All P rest = in_share n senders s xs (All-tail (λ p. p < n) x xs all) in
    dite (ℕ_discrete (x % senders) s)
    (λ is. subst (λ (b : Bool). All P (cond b (x ∷ rest) rest)) (sym (eq-eqb (x % senders) s is)) (All-cons P x rest (All-head (λ p. p < n) x xs all, is) others))
    (λ not. subst (λ (b : Bool). All P (cond b (x ∷ rest) rest)) (sym (ne_eqb (x % senders) s not)) others)

pub all_fair : (wires : List (List ℕ)) (senders : ℕ) (ts : List Ticket) → CarriesShares wires senders ts → All (IsFair wires senders) ts
all_fair wires senders ts carries = each_carries (FairAt wires senders) ts (λ s. subst (All (FairAt wires senders s)) (sym (carries s))
    (All-map (FairAt wires senders s) (parsed_at wires) (share_of (length wires) senders s)
    (λ i d lt. let h = in_share (length wires) senders s (range_with_len 0 (length wires))
    (below_count (length wires)) i d lt in (h.0, h.1, refl))))

-- the positions of a sender's tickets are its share
positions_carried : (ts : List Ticket) → positions_in ts ≡ map (λ (x : ℕ × Parsed). x.0) (map carried ts)
positions_carried [] = refl
positions_carried (t ∷ ts) = ap (λ xs. t.position ∷ xs) (positions_carried ts)

positions_parsed : (wires : List (List ℕ)) (ps : List ℕ) → map (λ (x : ℕ × Parsed). x.0) (map (parsed_at wires) ps) ≡ ps
positions_parsed wires [] = refl
positions_parsed wires (p ∷ ps) = ap (λ xs. p ∷ xs) (positions_parsed wires ps)

positions_of : (wires : List (List ℕ)) (senders : ℕ) (ts : List Ticket) → CarriesShares wires senders ts → (s : ℕ) → positions_in (of ts s) ≡ share_of (length wires) senders s
positions_of wires senders ts carries s = positions_carried (of ts s) ∙ ap (map (λ (x : ℕ × Parsed). x.0)) (carries s) ∙ positions_parsed wires (share_of (length wires) senders s)

arrived_first : (b : Bool) (t : Ticket) (arrivals : List Arrival) (ts : List Ticket)
    → positions arrivals ≡ positions_in ts
    → positions (cond b (arrival_of t ∷ arrivals) arrivals) ≡ positions_in (cond b (t ∷ ts) ts)
arrived_first true t arrivals ts is = ap (λ xs. t.position ∷ xs) is
arrived_first false t arrivals ts is = is

arrived_is : (ts : List Ticket) (s : ℕ) → arrived_of (map arrival_of ts) s ≡ positions_in (of ts s)
arrived_is [] s = refl
arrived_is (t ∷ ts) s = arrived_first (eqb t.sender s) t (filter (λ (a : Arrival). eqb a.sender s) (map arrival_of ts)) (of ts s) (arrived_is ts s)

-- each sender's positions arrive ascending
pub arrived_ascending : (wires : List (List ℕ)) (senders : ℕ) (ts : List Ticket) (arrivals : List Arrival)
    → arrivals ≡ map arrival_of ts → CarriesShares wires senders ts → (s : ℕ)
    → arrived_of arrivals s ≡ share_of (length wires) senders s
arrived_ascending wires senders ts arrivals is carries s = ap (λ (l : List Arrival). arrived_of l s) is ∙ arrived_is ts s ∙ positions_of wires senders ts carries s

-- how often a position stands among the tickets
times_same : (x p : ℕ) (xs : List ℕ) → x ≡ p → times p (x ∷ xs) ≡ 1 + times p xs
times_same x p xs is = ap (λ (b : Bool). cond b 1 0 + times p xs) (eq-eqb x p is)

times_other : (x p : ℕ) (xs : List ℕ) → x ≢ p → times p (x ∷ xs) ≡ times p xs
times_other x p xs ne = let e = ap (λ (b : Bool). cond b 1 0 + times p xs) (ne_eqb x p ne) in omega (arith, e)

times_before : (p a n : ℕ) → p < a → times p (range_with_len a n) ≡ 0
times_before p a zero lt = refl
times_before p a (suc n) lt = times_other a p (range_with_len (a + 1) n) (λ is. omega (arith, is, lt)) ∙ times_before p (a + 1) n (omega (arith, lt))

times_range : (p a n : ℕ) → a ≤ p → p < a + n → times p (range_with_len a n) ≡ 1
times_range p a zero le lt = absurd (omega (arith, le, lt))
times_range p a (suc n) le lt = dite (ℕ_discrete a p)
    (λ is. let none = times_before p (a + 1) n (omega (arith, is)) in let one = times_same a p (range_with_len (a + 1) n) is in omega (arith, none, one))
    (λ not. times_other a p (range_with_len (a + 1) n) not ∙ times_range p (a + 1) n (omega (arith, le, not)) (omega (arith, lt)))

times_dropped : (x p : ℕ) (xs : List ℕ) (b : Bool) → x ≢ p → times p (cond b (x ∷ xs) xs) ≡ times p xs
times_dropped x p xs true not = times_other x p xs not
times_dropped x p xs false not = refl

times_filter : (f : ℕ → Bool) (p : ℕ) (xs : List ℕ) → f p ≡ true → times p (filter f xs) ≡ times p xs
times_filter f p [] passes = refl
times_filter f p (x ∷ xs) passes =
    let others = times_filter f p xs passes in
    dite (ℕ_discrete x p)
    (λ is. let e : f x ≡ true = ap f is
    ∙ passes in ap (λ (b : Bool). times p (cond b (x ∷ filter f xs) (filter f xs))) e
    ∙ times_same x p (filter f xs) is ∙ ap (λ (k : ℕ). 1 + k) others ∙ sym (times_same x p xs is))
    (λ not. times_dropped x p (filter f xs) (f x) not ∙ others ∙ sym (times_other x p xs not))

times_of : (s p : ℕ) (ts : List Ticket) → All (λ (t : Ticket). t.position ≡ p → t.sender ≡ s) ts → times p (positions_in ts) ≡ times p (positions_in (of ts s))
times_of s p [] all = refl
times_of s p (t ∷ ts) all =
    let others = times_of s p ts (All-tail (λ (t : Ticket). t.position ≡ p → t.sender ≡ s) t ts all) in
    dite (ℕ_discrete t.sender s)
    (λ is. ap (λ (k : ℕ). cond (eqb t.position p) 1 0 + k) others ∙ sym (ap (λ (b : Bool). times p (positions_in (cond b (t ∷ of ts s) (of ts s)))) (eq-eqb t.sender s is)))
    (λ not. times_other t.position p (positions_in ts)
    (λ is. not (All-head (λ (t : Ticket). t.position ≡ p → t.sender ≡ s) t ts all is)) ∙ others
    ∙ sym (ap (λ (b : Bool). times p (positions_in (cond b (t ∷ of ts s) (of ts s))))
    (ne_eqb t.sender s not)))

-- each position has one ticket
one_ticket : (wires : List (List ℕ)) (senders : ℕ) (ts : List Ticket) → CarriesShares wires senders ts → (p : ℕ) → p < length wires → times p (positions_in ts) ≡ 1
one_ticket wires senders ts carries p lt =
    let s = p % senders in
    let fair = all_fair wires senders ts carries in
    times_of s p ts (λ i d below is. sym (fair i d below).1 ∙ ap (λ (k : ℕ). k % senders) is)
    ∙ ap (times p) (positions_of wires senders ts carries s)
    ∙ times_filter (λ q. eqb (q % senders) s) p (range_with_len 0 (length wires)) (eq-eqb s s refl)
    ∙ times_range p 0 (length wires) (omega arith) (omega (arith, lt))

positions_arrived : (ts : List Ticket) → positions (map arrival_of ts) ≡ positions_in ts
positions_arrived [] = refl
positions_arrived (t ∷ ts) = ap (λ xs. t.position ∷ xs) (positions_arrived ts)

pub arrived_once : (wires : List (List ℕ)) (senders : ℕ) (ts : List Ticket) (arrivals : List Arrival)
    → arrivals ≡ map arrival_of ts → CarriesShares wires senders ts → (p : ℕ) → p < length wires
    → times p (positions arrivals) ≡ 1
arrived_once wires senders ts arrivals is carries p lt = ap (λ (l : List Arrival). times p (positions l)) is ∙ ap (times p) (positions_arrived ts) ∙ one_ticket wires senders ts carries p lt

same_parsed : (parsed : List Parsed) (wires : List (List ℕ)) → length parsed ≡ length wires
    → ((p : ℕ) → p < length wires
    → get_or (map (λ (x : Parsed). Some x) parsed) p None ≡ Some (parsed_of (get_or wires p [])))
    → parsed ≡ map parsed_of wires
same_parsed [] [] long at = refl
same_parsed [] (w ∷ ws) long at = absurd (omega (arith, long))
same_parsed (x ∷ xs) [] long at = absurd (omega (arith, long))
same_parsed (x ∷ xs) (w ∷ ws) long at = λ i. same_Some x (parsed_of w) (at 0 (omega arith)) i ∷ same_parsed xs ws (omega (arith, long)) (λ p lt. at (suc p) (omega (arith, lt))) i

-- where each element passes, a filter keeps all
all_kept : {A : Type 0} (f : A → Bool) (xs : List A) → All (λ x. f x ≡ true) xs → filter f xs ≡ xs
all_kept f [] all = refl
all_kept f (x ∷ xs) all = ap (λ (b : Bool). cond b (x ∷ filter f xs) (filter f xs)) (All-head (λ y. f y ≡ true) x xs all) ∙ ap (λ l. x ∷ l) (all_kept f xs (All-tail (λ y. f y ≡ true) x xs all))

-- the tickets of one sender come in the order of the wires
one_came : (wires : List (List ℕ)) (ts : List Ticket) → CarriesShares wires 1 ts → map carried ts ≡ map (parsed_at wires) (range_with_len 0 (length wires))
one_came wires ts carries =
    let fair = all_fair wires 1 ts carries in
    let own : of ts 0 ≡ ts = all_kept (λ (t : Ticket). eqb t.sender 0) ts (λ i d lt. eq-eqb _ 0 (sym (fair i d lt).1 ∙ mod-one _)) in
    let whole : share_of (length wires) 1 0 ≡ range_with_len 0 (length wires) = all_kept (λ p. eqb (p % 1) 0) (range_with_len 0 (length wires)) (λ i d lt. eq-eqb _ 0 (mod-one _)) in
    ap (map carried) (sym own) ∙ carries 0 ∙ ap (map (parsed_at wires)) whole

parsed_carried : (ts : List Ticket) → map (λ (t : Ticket). t.parsed) ts ≡ map (λ (x : ℕ × Parsed). x.1) (map carried ts)
parsed_carried [] = refl
parsed_carried (t ∷ ts) = ap (λ xs. t.parsed ∷ xs) (parsed_carried ts)

parsed_wires : (wires : List (List ℕ)) → map (λ (x : ℕ × Parsed). x.1) (map (parsed_at wires) (range_with_len 0 (length wires))) ≡ map parsed_of wires
parsed_wires wires =
    let n = length wires in
    let f : ℕ → Parsed = λ p. parsed_of (get_or wires p []) in
    map-map (λ (x : ℕ × Parsed). x.1) (parsed_at wires) (range_with_len 0 n)
    ∙ same_parsed (map f (range_with_len 0 n)) wires (length-map-range_with_len f 0 n) (λ p lt.
    let l = length-map-range_with_len f 0 n in
    get_or-map (λ (x : Parsed). Some x) (map f (range_with_len 0 n)) p (f p) None (omega (arith, l, lt)) ∙ ap (λ (x : Parsed). Some x) (get_or-map-range_with_len f 0 n p p (f p) lt (omega arith)))

pub came_in_order : (wires : List (List ℕ)) (senders : ℕ) (ts : List Ticket) → senders ≡ 1 → CarriesShares wires senders ts → map (λ (t : Ticket). t.parsed) ts ≡ map parsed_of wires
came_in_order wires senders ts one carries =
    parsed_carried ts ∙ ap (map (λ (x : ℕ × Parsed). x.1)) (one_came wires ts (subst (λ n. CarriesShares wires n ts) one carries)) ∙ parsed_wires wires

-- a position that stands among the tickets is one of a ticket
standing : (p : ℕ) (ts : List Ticket) (A : Type 0) → 0 < times p (positions_in ts) → ((k : ℕ) (t : Ticket) → k < length ts → get_or ts k t ≡ t → t.position ≡ p → A) → A
standing p [] A some go = absurd (omega (arith, some))
standing p (t ∷ ts) A some go = dite (ℕ_discrete t.position p)
    (λ is. go 0 t (omega arith) refl is)
    (λ not. let e = times_other t.position p (positions_in ts) not in standing p ts A (omega (arith, e, some)) (λ k u lt at is. go (suc k) u (omega (arith, lt)) at is))

-- where each ticket is led to, each position is
pub all_lead : (wires : List (List ℕ)) (senders : ℕ) (ts : List Ticket) (places : List ℕ)
    → CarriesShares wires senders ts → All (λ (t : Ticket). LeadsTo places ts t.position) ts → (p : ℕ)
    → p < length wires → LeadsToParsed wires places ts p
all_lead wires senders ts places carries all p lt =
    let one = one_ticket wires senders ts carries p lt in
    let leads : LeadsTo places ts p = standing p ts (LeadsTo places ts p) (omega (arith, one))
    (λ k t below at is. subst (LeadsTo places ts) (ap (λ (u : Ticket). u.position) at ∙ is) (all k t below))
    in (
      leads.0,
      λ d.
          let fair = all_fair wires senders ts carries (place_of places p) d leads.0 in
          let has : (get_or ts (place_of places p) d).parsed ≡ parsed_of (get_or wires p []) = fair.2 ∙ ap (λ (q : ℕ). parsed_of (get_or wires q [])) (leads.1 d) in
          λ i. (leads.1 d i, has i),
    )

-- one place more is noted
pub one_noted : (places more : List ℕ) (ts : List Ticket) (t : Ticket) (at : ℕ) → at < length ts → t.position < length places → ((d : Ticket) → get_or ts at d ≡ t) → more ≡ set places t.position at
    → ((k : ℕ) (d : Ticket) → k < at → LeadsTo places ts (get_or ts k d).position)
    → (k : ℕ) (d : Ticket) → k < at + 1 → LeadsTo more ts (get_or ts k d).position
one_noted places more ts t at lt below is noted was k d le =
    let p = (get_or ts k d).position in
    let now : List ℕ = set places t.position at in
    subst (λ (l : List ℕ). LeadsTo l ts p) (sym noted) (dite (ℕ_discrete p t.position)
    (λ same.
    let here : place_of now p ≡ at = ap (place_of now) same ∙ get_or-set_same places t.position at 0 below in
    (omega (arith, here, lt), λ e. ap (λ (j : ℕ). (get_or ts j e).position) here ∙ ap (λ (u : Ticket). u.position) (is e) ∙ sym same))
    (λ other.
    let there : place_of now p ≡ place_of places p = get_or-set_other places t.position p at 0 other in
    let apart : k ≢ at = λ same. other (ap (λ (j : ℕ). (get_or ts j d).position) same ∙ ap (λ (u : Ticket). u.position) (is d)) in
    let before = was k d (omega (arith, le, apart)) in
    (omega (arith, there, before.0), λ e. ap (λ (j : ℕ). (get_or ts j e).position) there ∙ before.1 e)))

pub some_of : {A : Type 0} (xs : List A) (i : ℕ) → i < length xs → A
some_of [] i lt = absurd (omega (arith, lt))
some_of (x ∷ xs) i lt = x

-- one position more is taken out
pub one_taken : (wires : List (List ℕ)) (places : List ℕ) (ts left : List Ticket) (parsed more : List Parsed) (x : Parsed) (at place : ℕ) → at < length wires → place ≡ place_of places at
    → ((d : Ticket) → x ≡ (get_or ts place d).parsed) → length left ≡ length ts → ((k : ℕ) (d : Ticket) → k ≢ place → get_or left k d ≡ get_or ts k d) → more ≡ parsed ++ x ∷ []
    → parsed ≡ map parsed_of (take at wires) → ((p : ℕ) → at ≤ p → p < length wires → LeadsToParsed wires places ts p)
    → (more ≡ map parsed_of (take (at + 1) wires)) × ((p : ℕ) → at + 1 ≤ p → p < length wires → LeadsToParsed wires places left p)
one_taken wires places ts left parsed more x at place lt here taken long others pushed was leads =
    let own : LeadsToParsed wires places ts at = leads at (omega arith) lt in
    let d : Ticket = some_of ts (place_of places at) own.0 in
    let has : x ≡ parsed_of (get_or wires at []) = taken d ∙ ap (λ (k : ℕ). (get_or ts k d).parsed) here ∙ ap (λ (y : ℕ × Parsed). y.1) (own.1 d) in (
      pushed ∙ ap (λ (l : List Parsed). l ++ x ∷ []) was ∙ ap (λ (y : Parsed). map parsed_of (take at wires) ++ y ∷ []) has ∙ sym (map_more parsed_of wires at [] lt),
      λ p le below.
          let there : LeadsToParsed wires places ts p = leads p (omega (arith, le)) below in
          let apart : place_of places p ≢ place = λ same.
          let e : p ≡ at = sym (ap (λ (y : ℕ × Parsed). y.0) (there.1 d)) ∙ ap (λ (k : ℕ). (get_or ts k d).position) (same ∙ here) ∙ ap (λ (y : ℕ × Parsed). y.0) (own.1 d) in
          omega (arith, e, le)
          in
          (omega (arith, there.0, long), λ e. ap carried (others (place_of places p) e apart) ∙ there.1 e),
    )

-- a loop that gathers what a function gives of each item, over a list of them
pub one_done : {A B : Type 0} (f : A → B) (done more : List A) (x : A) (y : B) (rest left all : List B)
    → rest ≡ y ∷ left → y ≡ f x → more ≡ done ++ x ∷ [] → map f done ++ rest ≡ all → map f more ++ left ≡ all
one_done f done more x y rest left all step is pushed was =
    ap (λ l. map f l ++ left) pushed ∙ ap (λ l. l ++ left) (map-append f done (x ∷ [])) ∙ append_assoc (map f done) (f x ∷ []) left
    ∙ ap (λ z. map f done ++ z ∷ left) (sym is) ∙ ap (λ l. map f done ++ l) (sym step) ∙ was

pub all_done : {A B : Type 0} (f : A → B) (done : List A) (rest all : List B) → rest ≡ [] → map f done ++ rest ≡ all → map f done ≡ all
all_done f done rest all none was = sym (append-nil (map f done)) ∙ ap (λ l. map f done ++ l) (sym none) ∙ was

abbrev pub done_as : SendSeat → Result SendSeat OutOfMemory
done_as seat = Ok seat

-- what holds of each seat that came back, and of its sender, where all came back
pub each_done : (P : ℕ → SendSeat → Type 0) (senders : ℕ) (seats done : List SendSeat)
    (sent : List (Result SendSeat OutOfMemory)) → map sender_of seats ≡ range_with_len 0 senders
    → map done_as done ≡ sent → length sent ≡ length seats
    → ((i : ℕ) (d : SendSeat) (r : Result SendSeat OutOfMemory) → i < length seats → IfOk (get_or sent i r) (P (sender_of (get_or seats i d))))
    → (i : ℕ) (d : SendSeat) → i < length done → P i (get_or done i d)
each_done P senders seats done sent numbered all long each i d lt =
    let a : length (map done_as done) ≡ length done = length-map done done_as in
    let b : length (map done_as done) ≡ length sent = ap length all in
    let below : i < length seats = omega (arith, a, b, long, lt) in
    let c : length (map sender_of seats) ≡ length seats = length-map seats sender_of in
    let e : length (map sender_of seats) ≡ length (range_with_len 0 senders) = ap length numbered in
    let f = length-range_with_len 0 senders in
    let number : sender_of (get_or seats i d) ≡ i = sym (get_or-map sender_of seats i d (sender_of d) below) ∙ ap (λ (l : List ℕ). get_or l i (sender_of d)) numbered
    ∙ get_or-range_with_len 0 senders i (sender_of d) (omega (arith, below, c, e, f)) ∙ omega arith in
    let here : get_or sent i (done_as d) ≡ done_as (get_or done i d) = ap (λ (l : List (Result SendSeat OutOfMemory)). get_or l i (done_as d)) (sym all) ∙ get_or-map done_as done i d (done_as d) lt in
    let has : P (sender_of (get_or seats i d)) (get_or done i d) = subst (λ (r : Result SendSeat OutOfMemory). IfOk r (P (sender_of (get_or seats i d)))) here (each i d (done_as d) below) in
    subst (λ s. P s (get_or done i d)) number has

-- the seat of each sender has sent its share
pub shares_sent : (intake : Intake) (wires : List (List ℕ)) (senders : ℕ) (seats done : List SendSeat)
    (sent : List (Result SendSeat OutOfMemory)) → map sender_of seats ≡ range_with_len 0 senders
    → map done_as done ≡ sent → length sent ≡ length seats
    → ((i : ℕ) (d : SendSeat) (r : Result SendSeat OutOfMemory) → i < length seats → IfOk (get_or sent i r) (HasSentShare intake wires senders (sender_of (get_or seats i d))))
    → (i : ℕ) (d : SendSeat) → i < length done → HasSentShare intake wires senders i (get_or done i d)
shares_sent intake wires senders = each_done (HasSentShare intake wires senders) senders

no_share : (senders s : ℕ) (xs : List ℕ) → 0 < senders → senders ≤ s → filter (λ p. eqb (p % senders) s) xs ≡ []
no_share senders s [] some le = refl
no_share senders s (x ∷ xs) some le =
    let below : x % senders < senders = mod-lt x some in
    let apart : x % senders ≢ s = λ is. omega (arith, below, le, is) in
    ap (λ (b : Bool). cond b (x ∷ filter (λ p. eqb (p % senders) s) xs) (filter (λ p. eqb (p % senders) s) xs)) (ne_eqb (x % senders) s apart) ∙ no_share senders s xs some le

-- and so what is left in the ring carries all shares
carries_shares : (intake : Intake) (wires : List (List ℕ)) (senders : ℕ) (done : List SendSeat) (taken left : List Ticket) → 0 < senders → length done ≡ senders → taken ≡ []
    → ((i : ℕ) (d : SendSeat) → i < length done → HasSentShare intake wires senders i (get_or done i d))
    → All (λ (s : SendSeat). of (taken ++ left) (sender_of s) ≡ sent_by s) done → ((s : ℕ) → senders ≤ s → of (taken ++ left) s ≡ [])
    → CarriesShares wires senders left
carries_shares intake wires senders done taken left some long none shares sent others s =
    let same : taken ++ left ≡ left = ap (λ (l : List Ticket). l ++ left) none in
    dite (dec_le senders s)
    (λ le. ap (map carried) (ap (λ (l : List Ticket). of l s) (sym same) ∙ others s le) ∙ sym (ap (map (parsed_at wires)) (no_share senders s (range_with_len 0 (length wires)) some le)))
    (λ not.
    let lt : s < length done = grind (arith, not, long) in
    let d = some_of done s lt in
    let has = shares s d lt in
    ap (map carried) (ap (λ (l : List Ticket). of l s) (sym same) ∙ ap (of (taken ++ left)) (sym has.1) ∙ sent s d lt) ∙ has.2)

pub done_length : (seats done : List SendSeat) (sent : List (Result SendSeat OutOfMemory)) (senders : ℕ)
    → map sender_of seats ≡ range_with_len 0 senders → map done_as done ≡ sent → length sent ≡ length seats
    → length done ≡ senders
done_length seats done sent senders numbered all long =
    let a : length (map done_as done) ≡ length done = length-map done done_as in
    let b : length (map done_as done) ≡ length sent = ap length all in
    let c : length (map sender_of seats) ≡ length seats = length-map seats sender_of in
    let e : length (map sender_of seats) ≡ length (range_with_len 0 senders) = ap length numbered in
    let f = length-range_with_len 0 senders in
    omega (arith, a, b, c, e, f, long)

-- all of it, from what the calls say
pub left_carries : (intake : Intake) (wires : List (List ℕ)) (senders made : ℕ) (seats done : List SendSeat)
    (sent : List (Result SendSeat OutOfMemory)) (taken left : List Ticket) → 0 < senders
    → map sender_of seats ≡ range_with_len 0 senders → map done_as done ≡ sent → length sent ≡ length seats
    → ((i : ℕ) (d : SendSeat) (r : Result SendSeat OutOfMemory) → i < length seats → IfOk (get_or sent i r) (HasSentShare intake wires senders (sender_of (get_or seats i d))))
    → taken ≡ [] → made ≡ senders → All (λ (s : SendSeat). of (taken ++ left) (sender_of s) ≡ sent_by s) done → ((s : ℕ) → made ≤ s → of (taken ++ left) s ≡ [])
    → CarriesShares wires senders left
left_carries intake wires senders made seats done sent taken left some numbered all long each none is closed others =
    carries_shares intake wires senders done taken left some
    (done_length seats done sent senders numbered all long) none
    (shares_sent intake wires senders seats done sent numbered all long each) closed
    (λ s le. others s (omega (arith, is, le)))
