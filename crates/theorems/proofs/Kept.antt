-- What an evaluate call leaves of what it was lent: refused by 1 to 9, everything; otherwise the walk's text in front, the rest of the output, and zeros.
-- Goes on from specs/Kept.antt: what rests on definitions that a must-fail edit changes.
use Rattle.std.specs.Prelude.{◌≡◌, ℕ, ◌≤◌, List, length}
use Rattle.std.proofs.Math.Path.{refl}
use Rattle.std.proofs.Common.{arith, length-append, length-drop}
use Rattle.std.proofs.Math.Option.{Option, none, some}
use Rattle.std.proofs.Math.Seq.{take-append_seam, drop-append_seam}
use Rattle.rules.specs.Walk.{State, End, done, ended, stuck, walk}
use Rattle.rules.specs.Answers.{evaluate_refusal, left, kept, walked, unless_refused, input, evaluate}
use Rattle.rules.specs.declared.Answer.{Answer}
use Rattle.theorems.specs.Refusals.{evaluate_refuses}
use Rattle.theorems.proofs.Sound.{never_stuck}
use Rattle.theorems.specs.Bounds.{StateOf, when_done, when_ended}
use Rattle.theorems.proofs.Bounds.{written_fits}
use Rattle.theorems.specs.Kept.{Produced, AsWalked, finished, limited, Kept, refused, as_walked, admitted_typed}

left_produced : (a : Answer) (s : State) (out scratch : List ℕ) → length s.text ≤ length out → Produced s out scratch (left a s.text out scratch)
unfolding left
left_produced a s out scratch h = record {
  fits = h;
  first_bytes = take-append_seam s.text _;
  rest_kept = drop-append_seam s.text _;
  output_length = simp (length-append, length-drop) (omega arith);
  scratch_zero = refl;
}

walked_as : (e : End) (out scratch : List ℕ) → (e ≡ stuck → ⊥) → ((s : State) → StateOf s e → length s.text ≤ length out)
    → AsWalked e out scratch (walked e out scratch)
unfolding walked left
walked_as (done s) out scratch n fits = finished s refl refl (left_produced _ s out scratch (fits s when_done))
walked_as (ended l p s) out scratch n fits = limited l p s refl refl (left_produced _ s out scratch (fits s (when_ended l p)))
walked_as stuck out scratch n fits = absurd (n refl)

module _ (g t v : List ℕ) (fuel : ℕ) (out scratch : List ℕ) where
  pub unrefused_as_walked : evaluate_refusal g t v scratch ≡ none → AsWalked (walk (input g t v fuel out)) out scratch (evaluate g t v fuel out scratch)
  unfolding evaluate unless_refused input
  unrefused_as_walked e =
      rw e (walked_as (walk (input g t v fuel out)) out scratch (never_stuck (input g t v fuel out) (admitted_typed g t v fuel out scratch e))
      (written_fits (input g t v fuel out)))

  refused_untouched : (a : Answer) → evaluate_refusal g t v scratch ≡ some a → Kept g t v fuel out scratch (evaluate g t v fuel out scratch)
  unfolding evaluate unless_refused kept
  refused_untouched a e = rw e (refused (evaluate_refuses g t v scratch a e) (record { output_kept = refl; scratch_kept = refl }))

  -- An evaluate call on any bytes leaves what the paper says it leaves.
  pub refusals_keep : Kept g t v fuel out scratch (evaluate g t v fuel out scratch)
  refusals_keep = go (evaluate_refusal g t v scratch) refl
    where
      go : (r : Option Answer) → evaluate_refusal g t v scratch ≡ r → Kept g t v fuel out scratch (evaluate g t v fuel out scratch)
      go none e = as_walked (unrefused_as_walked e)
      go (some a) e = refused_untouched a e
