-- The options of a command as `clap` reads them, and the rows that their uses leave.
use Rattle.std.proofs.Common.{◌≡◌, List, [], ◌∷◌, ◌++◌, Bool, true, false, ◌||◌, Option, Some, None, refl, ap, map, codes, append-nil}
use Rattle.std.specs.Prelude.{if◌then◌else◌}
use Rattle.std.specs.Str.{bytes_eq}
use Rattle.std.proofs.lemmas.Slice.Eq.{bytes_eq-Decides}
use Rattle.std.proofs.lemmas.Bool.{or_parts}
use Rattle.clap.specs.Walk.{Rule, Row, arg_by_id, arg_by_long, at_row, has_row}
use Rattle.clap.specs.declared.builder.action.ArgAction.TheVariants.{Set, SetTrue}
use Rattle.clap.specs.declared.builder.value_parser.ValueParser.TheVariants as vp
use Rattle.clap.specs.declared.parser.matches.ValueSource.TheVariants.{CommandLine}
use Rattle.clap.specs.declared.builder.value_parser.Reading.TheVariants.{AsWritten}
use Rattle.bank_words.specs.Options.{Text, Options, Takes, number, nothing, unknown, is_among, takes, Use, has_use}

-- an option that takes a value, as a parse reads it
abbrev pub number_rule : Text → Rule
number_rule name = record {
  id = name;
  long = Some name;
  aliases = [];
  short = None;
  short_aliases = [];
  index = None;
  action = Some Set;
  range = Some (record { start_inclusive = 1; end_inclusive = 1 });
  value_names = 0;
  defaults = [];
  missing = [];
  trailing_var_arg = false;
  parser = Some vp.String;
  ignore_case = false;
  required = false;
  is_simple = true;
  is_free = true;
}

-- an option that takes none
abbrev pub run_rule : Text → Rule
run_rule name = record (number_rule name) {
  action = Some SetTrue;
  range = Some (record { start_inclusive = 0; end_inclusive = 0 });
  defaults = codes "false" ∷ [];
  missing = codes "true" ∷ [];
  parser = Some vp.Bool;
}

abbrev pub rules_of : Options → List Rule
rules_of o = map number_rule o.numbers ++ map run_rule o.flags

abbrev pub rule_for : Takes → Text → Option Rule
rule_for number x = Some (number_rule x)
rule_for nothing x = Some (run_rule x)
rule_for unknown x = None

flag_by_id : (fs : List Text) (x : Text) → arg_by_id (map run_rule fs) x ≡ rule_for (if is_among x fs then nothing else unknown) x
flag_by_id [] x = refl
flag_by_id (f ∷ fs) x = go (flag_by_id fs x) (bytes_eq f x) refl
  where
    go : arg_by_id (map run_rule fs) x ≡ rule_for (if is_among x fs then nothing else unknown) x → (b : Bool)
        → bytes_eq f x ≡ b → arg_by_id (map run_rule (f ∷ fs)) x
        ≡ rule_for (if is_among x (f ∷ fs) then nothing else unknown) x
    go more true e = let same : f ≡ x = (bytes_eq-Decides f x).0 e in rw e (ap (λ z. Some (run_rule z)) same)
    go more false e = rw e more

pub by_id : (ns fs : List Text) (x : Text) → arg_by_id (map number_rule ns ++ map run_rule fs) x ≡ rule_for (takes (record { numbers = ns; flags = fs }) x) x
by_id [] fs x = flag_by_id fs x
by_id (n ∷ ns) fs x = go (by_id ns fs x) (bytes_eq n x) refl
  where
    go : arg_by_id (map number_rule ns ++ map run_rule fs) x
        ≡ rule_for (takes (record { numbers = ns; flags = fs }) x) x → (b : Bool) → bytes_eq n x ≡ b
        → arg_by_id (map number_rule (n ∷ ns) ++ map run_rule fs) x
        ≡ rule_for (takes (record { numbers = n ∷ ns; flags = fs }) x) x
    go more true e = let same : n ≡ x = (bytes_eq-Decides n x).0 e in rw e (ap (λ z. Some (number_rule z)) same)
    go more false e = rw e more

flag_by_long : (fs : List Text) (x : Text) → arg_by_long (map run_rule fs) x ≡ rule_for (if is_among x fs then nothing else unknown) x
flag_by_long [] x = refl
flag_by_long (f ∷ fs) x = go (flag_by_long fs x) (bytes_eq f x) refl
  where
    go : arg_by_long (map run_rule fs) x ≡ rule_for (if is_among x fs then nothing else unknown) x → (b : Bool)
        → bytes_eq f x ≡ b → arg_by_long (map run_rule (f ∷ fs)) x
        ≡ rule_for (if is_among x (f ∷ fs) then nothing else unknown) x
    go more true e = let same : f ≡ x = (bytes_eq-Decides f x).0 e in rw e (ap (λ z. Some (run_rule z)) same)
    go more false e = rw e more

pub by_long : (ns fs : List Text) (x : Text) → arg_by_long (map number_rule ns ++ map run_rule fs) x ≡ rule_for (takes (record { numbers = ns; flags = fs }) x) x
by_long [] fs x = flag_by_long fs x
by_long (n ∷ ns) fs x = go (by_long ns fs x) (bytes_eq n x) refl
  where
    go : arg_by_long (map number_rule ns ++ map run_rule fs) x
        ≡ rule_for (takes (record { numbers = ns; flags = fs }) x) x → (b : Bool) → bytes_eq n x ≡ b
        → arg_by_long (map number_rule (n ∷ ns) ++ map run_rule fs) x
        ≡ rule_for (takes (record { numbers = n ∷ ns; flags = fs }) x) x
    go more true e = let same : n ≡ x = (bytes_eq-Decides n x).0 e in rw e (ap (λ z. Some (number_rule z)) same)
    go more false e = rw e more

-- ---- the rows of uses

abbrev pub values_of : Option Text → List Text
values_of (Some value) = value ∷ []
values_of None = codes "true" ∷ []

-- what is found for a use
abbrev pub row_of : Use → Row
row_of u = record {
  id = u.name;
  values = values_of u.value;
  count = None;
  source = Some CommandLine;
  reading = AsWritten;
}

abbrev pub rows_for : List Use → List Row
rows_for uses = map row_of uses

pub has_row-rows_for : (x : Text) (uses : List Use) → has_row x (rows_for uses) ≡ has_use x uses
has_row-rows_for x [] = refl
has_row-rows_for x (u ∷ uses) = ap (λ b. bytes_eq u.name x || b) (has_row-rows_for x uses)

pub at_row-absent : (id : Text) (change : Row → List Row) (missing rows : List Row) → has_row id rows ≡ false → at_row id change missing rows ≡ rows ++ missing
at_row-absent id change missing [] h = refl
at_row-absent id change missing (r ∷ rows) h =
    let parts = or_parts (bytes_eq r.id id) (has_row id rows) h in
    rw (parts.0, at_row-absent id change missing rows parts.1) refl

-- the rows after a first use
pub with_row : (id : Text) (change : Row → List Row) (row : Row) (rows : List Row) → has_row id rows ≡ false → at_row id change (row ∷ []) (at_row id (λ _. []) [] rows) ≡ rows ++ row ∷ []
with_row id change row rows h =
    rw (at_row-absent id (λ _. []) [] rows h, append-nil rows, at_row-absent id change (row ∷ []) rows h) refl
