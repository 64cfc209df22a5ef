-- Laws of a match: its own test, and its arms, each with the content of its case. Assumes nothing.
use Prim.Native.Nat.{ℕ, zero, suc, ◌+◌, ◌<◌}
use mathlib.Core.Path.{◌≡◌, refl, sym, ap, ◌∙◌}
use mathlib.Core.List.{List, [], ◌∷◌, ◌++◌, map}
use mathlib.Core.Bool.{false}
use mathlib.Core.Option.{none, some}
use native.Mathlib.Omega.{arith}
use native.Mathlib.Nat.{add-zero}
use native.Mathlib.Numerals.{add-one}
use lib.ListN.{length}
use lib.Dec.{eqb}
use borrow.Author.Tests.{eq-eqb, ne_eqb}
use Rattle.rules.specs.Faults.{on_found}
use Rattle.rules.specs.Records.{field_b, field_c, field_d, heads, row}
use Rattle.rules.specs.Limits.{loops_below}
use Rattle.rules.specs.Templates.{TypeForm, no_type, type_of, path, first, arms, nodes_of}
use Rattle.rules.specs.Typing.{Site, site, asks_nonterminal, case_types, path_type, suits_form, arm_sites, sites_of}
use Rattle.rules.specs.declared.Form.TheVariants.{Match}
use Rattle.rules.specs.declared.Position.{Position}
use Rattle.rules.specs.declared.Position.TheVariants.{Nonterminal}
use Rattle.laws.specs.Faults.{on_some, on_none}
use Rattle.laws.specs.Lists.{length_map}
use Rattle.laws.specs.Rows.{length_heads}
use Rattle.typing.specs.Answers.{row_of, position_in, entry_of, brings_of, brought, bindings, site_in, Suited}
use Rattle.typing.specs.declared.Brings.TheVariants.{Contents}
use Rattle.typing.specs.declared.Positions.TheVariants.{Alike}
use Rattle.typing.proofs.SuitsLaws.{through, finds_in}

-- the arms in a row, each with the content of its case

alike_arms : (g t asked vars : List ℕ) (position : Position) (h n i p : ℕ)
    → arm_sites vars position (map (field_b t) (row n (h + 1 + i))) (heads (field_c t) n p)
    ≡ row_of (site_in g t asked vars (Alike position (Contents h))) (field_c t) n i p
unfolding arm_sites row heads row_of site_in position_in brings_of bindings
alike_arms g t asked vars position h zero i p = refl
alike_arms g t asked vars position h (suc n) i p =
    let e : h + 1 + i + 1 ≡ h + 1 + (i + 1) = omega arith in
    ap (λ (xs : List Site). site (vars ++ field_b t (h + 1 + i) ∷ []) position p ∷ xs) (rw e (alike_arms g t asked vars position h n (i + 1) (p + field_c t p)))

-- F is the form of the type that the path finds

module _ (g t : List ℕ) (x : Site) where
  pub match_nothing : asks_nonterminal x.position ≡ none → suits_form g t Match x ≡ false
  unfolding suits_form
  match_nothing h = on_none false _ h

  module _ (F : TypeForm) (finds : F ≡ on_found (path_type t x.vars (x.node + 1)) no_type (type_of t)) (n : ℕ) (asks : asks_nonterminal x.position ≡ some n) where
    match_form : suits_form g t Match x ≡ on_found (case_types F) false (λ tys. eqb (length tys) (field_d t x.node))
    unfolding suits_form on_found case_types
    match_form = on_some false _ asks ∙ sym (finds_in g t x F finds (λ G. on_found (case_types G) false (λ tys. eqb (length tys) (field_d t x.node))) refl)

    match_sites : sites_of g t Match x ≡ on_found (case_types F) [] (λ tys. arm_sites x.vars (Nonterminal n) tys (arms t x.node))
    unfolding sites_of path case_types on_found
    match_sites =
        on_some [] _ asks
        ∙ sym (through (λ G. on_found (case_types G) [] (λ tys. arm_sites x.vars (Nonterminal n) tys (arms t x.node))) refl (path_type t x.vars (x.node + 1)) (type_of t))
        ∙ rw (← finds)

    pub match_other : case_types F ≡ none → suits_form g t Match x ≡ false
    match_other h = match_form ∙ on_none false _ h

    -- on a variant whose head is at h, with m cases
    module _ (h m : ℕ) (is : case_types F ≡ some (map (field_b t) (row m (h + 1)))) (d : ℕ) (hd : d ≡ field_d t x.node) where
      counts : suits_form g t Match x ≡ eqb m d
      unfolding row
      counts = match_form ∙ on_some false _ is ∙ rw (length_map (field_b t) (heads (λ q. 1) m (h + 1)), length_heads (λ q. 1) m (h + 1), ← hd)

      pub match_counts : (m ≡ d → ⊥) → suits_form g t Match x ≡ false
      match_counts k = counts ∙ ne_eqb m d k

      pub match_is : (asked : List ℕ) → m ≡ d → d < 65536
          → Suited g t asked x Match (record { first = x.node + 2; count = d; positions = Alike (Nonterminal n) (Contents h) })
      unfolding nodes_of arms first loops_below brings_of brought entry_of
      match_is asked k l = record {
        own = counts ∙ eq-eqb m d k;
        sites_are =
            match_sites ∙ on_some [] _ is
            ∙ rw (k, ← hd, ← add-zero (h + 1)) (alike_arms g t asked x.vars (Nonterminal n) h d 0 (x.node + 2));
        nodes_are = rw hd;
        loops_are = λ m. sym (add-one m);
        near = omega arith;
        few = l;
        inside = λ i k. omega arith;
      }
