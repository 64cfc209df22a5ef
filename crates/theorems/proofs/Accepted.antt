-- The check call accepts a grammar and template set exactly when the written rules of blocks, layout, limits, names, classes and typing hold.
-- Goes on from specs/Accepted.antt: what rests on definitions that a must-fail edit changes.
use Rattle.std.specs.Prelude.{◌≡◌, refl, ◌↔◌, ℕ, List, [], ◌∷◌}
use Rattle.std.proofs.Math.Option.{Option, none}
use Rattle.rules.specs.Faults.{every}
use Rattle.rules.specs.Blocks.{stream_length, stream_blocks}
use Rattle.rules.specs.Layout.{value_layout}
use Rattle.rules.specs.Limits.{deepest, value_limits}
use Rattle.rules.specs.Answers
use Rattle.rules.specs.Answers.{answer, Stream, stream_kind, bytes_of, layout_of, limits_of, over, accept, set_refusal, check_refusal, scratch_needed, evaluate_refusal, check}
use Rattle.laws.specs.Faults.{need_iff, both_none, both_iff, placed_iff, try_iff, leb_iff}
use Rattle.theorems.specs.Refusals.{check_refuses}
use Rattle.theorems.specs.Streams.{length_exactly, blocks_exactly}
use Rattle.theorems.specs.LayoutExactly.{grammar_laid_exactly, templates_laid_exactly, value_laid_exactly}
use Rattle.theorems.specs.LimitsExactly.{value_limits_exactly, grammar_names_exactly, templates_names_exactly}
use Rattle.theorems.proofs.LimitsExactly.{limits_exactly}
use Rattle.theorems.specs.ClassesExactly.{classes_exactly}
use Rattle.theorems.proofs.TypingExactly.{typing_exactly}
use Rattle.theorems.proofs.ValueExactly.{value_typed_exactly}
use Rattle.theorems.specs.Accepted.{Accepted, NoRefusal, set_none, zeros_none, Admitted}

-- The order of the checks, undone: no refusal of 1 to 7 over these streams
over_none : (fault : Stream → Option ℕ) (s : Stream) (ss : List Stream) → (over fault (s ∷ ss) ≡ none) ↔ ((fault s ≡ none) × (over fault ss ≡ none))
unfolding over every
over_none fault s ss =
    (λ e. let a = both_none _ _ e in ((placed_iff _ _).0 a.0, a.1), λ h. (both_iff _ _).1 ((placed_iff _ _).1 h.0, h.1))

over_no_stream : (fault : Stream → Option ℕ) → over fault [] ≡ none
unfolding over every
over_no_stream fault = refl

over_two : (fault : Stream → Option ℕ) (a b : Stream) → (over fault (a ∷ b ∷ []) ≡ none) ↔ ((fault a ≡ none) × (fault b ≡ none))
over_two fault a b = (
  λ e. let r = (over_none fault a _).0 e in (r.0, ((over_none fault b _).0 r.1).0),
  λ h. (over_none fault a _).1 (h.0, (over_none fault b _).1 (h.1, over_no_stream fault)),
)

over_three : (fault : Stream → Option ℕ) (a b c : Stream) → (over fault (a ∷ b ∷ c ∷ []) ≡ none) ↔ ((over fault (a ∷ b ∷ []) ≡ none) × (fault c ≡ none))
over_three fault a b c = (
  λ e. let r = (over_none fault a _).0 e in let s = (over_two fault b c).0 r.1 in ((over_two fault a b).1 (r.0, s.0), s.1),
  λ h. let r = (over_two fault a b).0 h.0 in (over_none fault a _).1 (r.0, (over_two fault b c).1 (r.1, h.1)),
)

accepted_rules : (g t : List ℕ) → NoRefusal g t [] ↔ Accepted g t
unfolding bytes_of stream_kind layout_of limits_of
accepted_rules g t = (to, from)
  where
    to : NoRefusal g t [] → Accepted g t
    to n =
        let a = (over_two _ _ _).0 n.lengths in let b = (over_two _ _ _).0 n.blocks in let c = (over_two _ _ _).0 n.layouts in let d = (over_two _ _ _).0 n.limits in
        let sg = (length_exactly g).0 a.0 in let st = (length_exactly t).0 a.1 in let w = (limits_exactly t).0 d.1 in
        record {
          grammar_sized = sg;
          templates_sized = st;
          grammar_blocks = (blocks_exactly 1 g).0 b.0;
          templates_blocks = (blocks_exactly 2 t).0 b.1;
          grammar_laid = (grammar_laid_exactly g sg).0 c.0;
          templates_laid = (templates_laid_exactly t st).0 c.1;
          within_limits = w;
          grammar_named = (grammar_names_exactly g).0 n.names_g;
          templates_named = (templates_names_exactly g t w).0 n.names_t;
          classes_right = (classes_exactly g).0 n.class_tables;
          typed = (typing_exactly g t w).0 n.typing;
        }

    from : Accepted g t → NoRefusal g t []
    from h =
        let w = h.within_limits in
        record {
          lengths = (over_two _ _ _).1 ((length_exactly g).1 h.grammar_sized, (length_exactly t).1 h.templates_sized);
          blocks = (over_two _ _ _).1 ((blocks_exactly 1 g).1 h.grammar_blocks, (blocks_exactly 2 t).1 h.templates_blocks);
          layouts = (over_two _ _ _).1 ((grammar_laid_exactly g h.grammar_sized).1 h.grammar_laid, (templates_laid_exactly t h.templates_sized).1 h.templates_laid);
          limits = (over_two _ _ _).1 (refl, (limits_exactly t).1 w);
          names_g = (grammar_names_exactly g).1 h.grammar_named;
          names_t = (templates_names_exactly g t w).1 h.templates_named;
          class_tables = (classes_exactly g).1 h.classes_right;
          typing = (typing_exactly g t w).1 h.typed;
        }

pub accepted_exactly : (g t : List ℕ) → (check g t ≡ answer 0 0 0 0 0) ↔ Accepted g t
unfolding check check_refusal accept
accepted_exactly g t = (
  λ e. (accepted_rules g t).0 ((set_none g t _ accept).0 ((zeros_none _ (check_refuses g t)).0 e)).0,
  λ h. (zeros_none _ (check_refuses g t)).1 ((set_none g t _ accept).1 ((accepted_rules g t).1 h, refl)),
)

-- over the value too
with_value : (g t v : List ℕ) → NoRefusal g t (Answers.value v ∷ [])
    ↔ (NoRefusal g t [] × (stream_length v ≡ none) × (stream_blocks 3 v ≡ none) × (value_layout v ≡ none) × (value_limits v ≡ none))
unfolding bytes_of stream_kind layout_of limits_of
with_value g t v = (
  λ n. let a = (over_three _ _ _ _).0 n.lengths in let b = (over_three _ _ _ _).0 n.blocks in let c = (over_three _ _ _ _).0 n.layouts in let d = (over_three _ _ _ _).0 n.limits in (
    record { lengths = a.0; blocks = b.0; layouts = c.0; limits = d.0; names_g = n.names_g; names_t = n.names_t; class_tables = n.class_tables; typing = n.typing },
    a.1,
    b.1,
    c.1,
    d.1,
  ),
  λ h. let n = h.0 in
      record {
        lengths = (over_three _ _ _ _).1 (n.lengths, h.1);
        blocks = (over_three _ _ _ _).1 (n.blocks, h.2);
        layouts = (over_three _ _ _ _).1 (n.layouts, h.3);
        limits = (over_three _ _ _ _).1 (n.limits, h.4);
        names_g = n.names_g;
        names_t = n.names_t;
        class_tables = n.class_tables;
        typing = n.typing;
      },
)

pub admitted_exactly : (g t v scratch : List ℕ) → (evaluate_refusal g t v scratch ≡ none) ↔ Admitted g t v scratch
unfolding evaluate_refusal accept scratch_needed deepest
admitted_exactly g t v scratch = (
  λ e. let a = (set_none g t _ _).0 e in let n = (with_value g t v).0 a.0 in let b = (try_iff 8 _ _).0 a.1 in let c = (try_iff 9 _ _).0 b.1 in
      let z = (length_exactly v).0 n.1 in
      record {
        accepted = (accepted_rules g t).0 n.0;
        well_formed = record { sized = z; blocks = (blocks_exactly 3 v).0 n.2; laid = (value_laid_exactly v z).0 n.3 };
        shallow = (value_limits_exactly v).0 n.4;
        of_declared_type = (value_typed_exactly g t v n.4).0 ((placed_iff _ _).0 b.0);
        scratch_enough = (leb_iff _ _).0 ((need_iff {A = ℕ} _ 0).0 ((placed_iff _ _).0 c.0));
      },
  λ h. let z = h.well_formed.sized in let d = (value_limits_exactly v).1 h.shallow in
      (set_none g t _ _).1 (
        (with_value g t v).1 (
          (accepted_rules g t).1 h.accepted,
          (length_exactly v).1 z,
          (blocks_exactly 3 v).1 h.well_formed.blocks,
          (value_laid_exactly v z).1 h.well_formed.laid,
          d,
        ),
        (try_iff 8 _ _).1 (
          (placed_iff _ _).1 ((value_typed_exactly g t v d).1 h.of_declared_type),
          (try_iff 9 _ _).1 ((placed_iff _ _).1 ((need_iff {A = ℕ} _ 0).1 ((leb_iff _ _).1 h.scratch_enough)), refl),
        ),
      ),
)
