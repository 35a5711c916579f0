-- Statements that run one after the other.
use Rattle.std.proofs.Common.{◌≡◌, ◌<◌, ◌+◌, ℕ, List, [], ◌∷◌, ◌++◌, length, take, get_or, refl, sym, ap, ◌∙◌, subst, arith}
use Rattle.std.proofs.lemmas.List.{take_more}
use Rattle.sqlite_trees.specs.declared.store.Store.{Ghosts}
use Rattle.sqlite_value.specs.declared.value.Value.{Value}
use Rattle.sqlite.specs.Held.{Held}
use Rattle.ledger_tables.specs.Statements.{Statement, AreRun, Ran, StaysKnown, inserts}

module _ {S : Type 0} (g : Ghosts S) where
  run_then : (first second : List Statement) (old mid new : Held S) → AreRun g first old mid → AreRun g second mid new → AreRun g (first ++ second) old new
  run_then [] second old mid new same after = subst (λ h. AreRun g second h new) same after
  run_then (statement ∷ first) second old mid new (at, ran, before) after = (at, ran, run_then first second at mid new before after)

  pub ran_then : (first second : List Statement) (old mid new : Held S) → StaysKnown g mid new → Ran g first old mid → Ran g second mid new → Ran g (first ++ second) old new
  ran_then first second old mid new known before after clean = run_then first second old mid new (before (omega arith)) (after clean)

  -- one row more went in
  pub inserted_more : {X : Type 0} (sql : List ℕ) (columns : X → List Value) (rows : List X) (i : ℕ) (x : X) (old mid new : Held S) → i < length rows → x ≡ get_or rows i x → StaysKnown g mid new
      → Ran g (inserts sql columns (take i rows)) old mid → Ran g (record { sql = sql; values = columns x } ∷ []) mid new → Ran g (inserts sql columns (take (i + 1) rows)) old new
  inserted_more {X} sql columns rows i x old mid new lt is known before after clean =
      subst (λ statements. AreRun g statements old new)
      (sym (ap (inserts sql columns) (take_more rows i x lt) ∙ inserts_and (take i rows) (get_or rows i x)
      ∙ ap (λ y. inserts sql columns (take i rows) ++ record { sql = sql; values = columns y } ∷ [])
      (sym is)))
      (ran_then (inserts sql columns (take i rows)) (record { sql = sql; values = columns x } ∷ []) old mid new known before after clean)
    where
      inserts_and : (xs : List X) (y : X) → inserts sql columns (xs ++ y ∷ []) ≡ inserts sql columns xs ++ record { sql = sql; values = columns y } ∷ []
      inserts_and [] y = refl
      inserts_and (z ∷ zs) y = ap (λ l. record { sql = sql; values = columns z } ∷ l) (inserts_and zs y)

  -- the rows are those that were handed on
  pub ran_same : {X : Type 0} (sql : List ℕ) (columns : X → List Value) (given rows : List X) (old new : Held S)
      → given ≡ rows → Ran g (inserts sql columns given) old new → Ran g (inserts sql columns rows) old new
  ran_same sql columns given rows old new same = subst (λ xs. Ran g (inserts sql columns xs) old new) same
