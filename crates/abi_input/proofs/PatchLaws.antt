-- A region that is written over, as the code builds it.
use Rattle.std.proofs.Common.{◌≡◌, ◌-◌, ℕ, List, [], ◌++◌, length, take, drop, None, Result, Ok, Err, refl, sym, ap, subst, ◌∙◌}
use Rattle.std.specs.Prelude.{Option}
use Rattle.std.specs.List.{enumerate_from, flat_map}
use Rattle.std.proofs.lemmas.List.{take_rest}
use Rattle.sol_base.specs.declared.account.Account.{Account}
use Rattle.sol_base.specs.declared.lock.Meta.{Meta}
use Rattle.abi_input.specs.declared.fault.PatchFault.{PatchFault}
use Rattle.abi_input.specs.declared.fault.PatchFault.TheVariants.{LengthTooLarge, OutOfMemory}
use Rattle.abi_input.specs.Region.{entry_start, is_outgrown, patched, patched_entry, unless_found}
use Rattle.abi_input.specs.Entries.{found_among}
use Rattle.abi_input.specs.Answers.{Patches, RefusesPatch}
use Rattle.abi_input.proofs.Finding.{found_all, refused_back}

pub patched_whole : (region : List ℕ) (start now : List Account) (metas : List Meta) (d d1 d2 d3 : List ℕ)
    (end n : ℕ) → found_among (is_outgrown start now) metas (length metas) ≡ None → d ≡ []
    → d1 ≡ d ++ take 8 region
    → d2 ≡ d1 ++ flat_map (patched_entry region start now metas) (enumerate_from 0 metas)
    → d3 ≡ d2 ++ take n (drop end region) → end ≡ entry_start start metas (length metas)
    → n ≡ length region - end → patched region start now metas ≡ Ok d3
unfolding patched
patched_whole region start now metas d d1 d2 d3 end n fits none one two three at rest =
    let entries : List ℕ = flat_map (patched_entry region start now metas) (enumerate_from 0 metas) in
    let tail : take n (drop end region) ≡ drop (entry_start start metas (length metas)) region =
    ap (λ m. take m (drop end region)) rest ∙ take_rest region end ∙ ap (λ m. drop m region) at in
    let first : d1 ≡ take 8 region = one ∙ ap (λ (l : List ℕ). l ++ take 8 region) none in
    let whole : d3 ≡ (take 8 region ++ entries) ++ drop (entry_start start metas (length metas)) region =
    three ∙ ap (λ (l : List ℕ). d2 ++ l) tail ∙ ap (λ (l : List ℕ). l ++ drop (entry_start start metas (length metas)) region) (two ∙ ap (λ (l : List ℕ). l ++ entries) first) in
    ap (λ (o : Option (ℕ × Meta)). unless_found o ((take 8 region ++ entries) ++ drop (entry_start start metas (length metas)) region)) (sym (found_all (is_outgrown start now) metas) ∙ fits)
    ∙ ap (λ (l : List ℕ). let r : Result (List ℕ) ℕ = Ok l in r) (sym whole)

refused : (region : List ℕ) (start now : List Account) (metas : List Meta) (fault : PatchFault)
    → RefusesPatch (found_among (is_outgrown start now) metas (length metas)) fault
    → Patches (patched region start now metas) region region (Err fault)
unfolding patched
refused region start now metas (LengthTooLarge i) h =
    let whole : List ℕ = (take 8 region ++ flat_map (patched_entry region start now metas) (enumerate_from 0 metas)) ++ drop (entry_start start metas (length metas)) region in
    (ap (λ (o : Option (ℕ × Meta)). unless_found o whole) (sym (found_all (is_outgrown start now) metas)) ∙ refused_back (found_among (is_outgrown start now) metas (length metas)) i whole h, refl)
refused region start now metas OutOfMemory h = refl

-- a patch is refused, by what the region was laid out from
pub patch_refused : (region : List ℕ) (start laid_start now : List Account) (metas laid_metas : List Meta) (fault : PatchFault) → laid_start ≡ start → laid_metas ≡ metas
    → RefusesPatch (found_among (is_outgrown laid_start now) laid_metas (length laid_metas)) fault → Patches (patched region start now metas) region region (Err fault)
patch_refused region start laid_start now metas laid_metas fault same_start same_metas h =
    subst (λ (s : List Account). Patches (patched region s now metas) region region (Err fault)) same_start
    (subst (λ (m : List Meta). Patches (patched region laid_start now m) region region (Err fault)) same_metas (refused region laid_start now laid_metas fault h))
