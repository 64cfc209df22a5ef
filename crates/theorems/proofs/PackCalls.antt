-- What packing, unpacking and the single-block call answer and leave, in every case.
-- Goes on from specs/PackCalls.antt: what rests on definitions that a must-fail edit changes.
use Rattle.std.specs.Prelude.{◌≡◌, refl, ◌↔◌, ℕ, ◌%◌, List, Bool, true, false, ◌&&◌, length, eqb, leb}
use Rattle.std.proofs.Common.{leb-true, leb-false}
use Rattle.std.proofs.Math.Option.{Option, none, some}
use Rattle.rules.specs.Faults.{need, both}
use Rattle.rules.specs.Blocks.{is_kind, stream_length, stream_blocks, unpacked}
use Rattle.rules.specs.Answers.{placed, try, unpack_refusal, written, unpack}
use Rattle.rules.specs.declared.Answer.{Answer}
use Rattle.laws.specs.Faults.{need_iff}
use Rattle.theorems.specs.Streams.{WellSized, length_exactly, blocks_exactly}
use Rattle.theorems.specs.Accepted.{RightBlocks}
use Rattle.theorems.proofs.FirstOffending.{first_block}
use Rattle.theorems.specs.PackCalls.{StreamKind, wrong_length, wrong_kind, no_room, Unpacks, wrong_length, wrong_kind, wrong_block, no_room, unpacks, kind_exactly, try_need, fails, refused_by, wrote_all}

sized_test : (s : List ℕ) → ((leb 1 (length s) && (leb (length s) 65536 && eqb (length s % 512) 0)) ≡ true) ↔ WellSized s
unfolding stream_length
sized_test s = (λ e. (length_exactly s).0 ((need_iff {A = ℕ} _ 0).1 e), λ w. (need_iff {A = ℕ} _ 0).0 ((length_exactly s).1 w))

-- the kind and then the blocks, with the place of the first wrong one
try_blocks : (kind : ℕ) (s out : List ℕ) (next : Unit {0} → Option Answer) → WellSized s
    → (StreamKind kind → RightBlocks kind s → Unpacks kind s out (written (next tt) (λ _. unpacked s) out))
    → Unpacks kind s out (written (try 2 (placed 0 (both (need (is_kind kind) 0) (stream_blocks kind s))) next) (λ _. unpacked s) out)
unfolding need both placed try written
try_blocks kind s out next w held = go (is_kind kind) refl
  where
    blocks : StreamKind kind → (o : Option ℕ) → stream_blocks kind s ≡ o
        → Unpacks kind s out (written (try 2 (placed 0 o) next) (λ _. unpacked s) out)
    blocks k none e = held k ((blocks_exactly kind s).0 e)
    blocks k (some n) e = let f = (first_block kind s).first_offends n e in wrong_block n w k f.0 f.1 (refused_by 2 n out)

    go : (b : Bool) → is_kind kind ≡ b → Unpacks kind s out (written (try 2 (placed 0 (both (need b 0) (stream_blocks kind s))) next) (λ _. unpacked s) out)
    go true e = blocks ((kind_exactly kind).0 e) (stream_blocks kind s) refl
    go false e = wrong_kind w (fails (kind_exactly kind) e) (refused_by 2 0 out)

pub unpack_answers : (kind : ℕ) (s out : List ℕ) → Unpacks kind s out (unpack kind s out)
unfolding unpack unpack_refusal stream_length
unpack_answers kind s out =
    try_need (Unpacks kind s out) 1 _ _ _ out
    (λ e. let w = (sized_test s).0 e in try_blocks kind s out _ w λ k r. try_need (Unpacks kind s out) 12 _ _ _ out
    (λ d. unpacks w k r (leb-true _ _ d) (wrote_all (λ _. unpacked s) out))
    (λ d. no_room w k r (leb-false _ _ d) (refused_by 12 0 out)))
    (λ e. wrong_length (fails (sized_test s) e) (refused_by 1 0 out))
