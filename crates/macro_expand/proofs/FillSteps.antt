-- A macro's text that is filled in segment after segment.
use Rattle.std.proofs.Common.{◌≡◌, sym, ap, ◌∙◌, ℕ, List, ◌++◌, drop, append_assoc}
use Rattle.macro_expand.specs.declared.fault.MacroFault.{MacroFault}
use Rattle.macro_expand.specs.declared.segment.Segment.{Segment as Segment'}
use Rattle.macro_expand.specs.Filling.{segments, filled}
use Rattle.macro_expand.specs.Expansion.{limited}
use Rattle.macro_expand.specs.Views.{Fails, segment_len, segments_view, IsFirstSegment}
use Rattle.macro_expand.proofs.AnswerSteps.{Fails-handed_on}
use Rattle.macro_expand.proofs.SegmentSteps.{filled_first}
use Rattle.macro_expand.proofs.EachSteps.{limited_more}

module _ (arguments : List (List ℕ)) (rest : List ℕ) (first : Segment') (is : IsFirstSegment rest first) (made piece whole : List ℕ) (text_is : piece ≡ filled arguments (segments_view first)) (whole_is : made ++ filled arguments (segments rest) ≡ whole) where
  -- what was made, the segment, and what follows it
  after : (made ++ piece) ++ filled arguments (segments (drop (segment_len first) rest)) ≡ whole
  after =
      append_assoc made piece (filled arguments (segments (drop (segment_len first) rest)))
      ∙ (ap (λ bs. made ++ (bs ++ filled arguments (segments (drop (segment_len first) rest)))) text_is
      ∙ (ap (λ bs. made ++ bs) (sym (filled_first rest first is arguments)) ∙ whole_is))

  -- the segment is put there
  pub fill_more : (new left : List ℕ) (len : ℕ) → new ≡ made ++ piece → len ≡ segment_len first → left ≡ drop len rest → new ++ filled arguments (segments left) ≡ whole
  fill_more new left len pushed l e =
      ap (λ bs. bs ++ filled arguments (segments left)) pushed
      ∙ (ap (λ bs. (made ++ piece) ++ filled arguments (segments bs)) (e ∙ ap (λ k. drop k rest) l) ∙ after)

  -- the segment is too long
  pub fill_refused : (fault : MacroFault) → Fails fault (limited (made ++ piece)) → Fails fault (limited whole)
  fill_refused fault h =
      Fails-handed_on fault (limited (made ++ piece)) (limited whole)
      (λ e refused. ap limited (sym after) ∙ limited_more (made ++ piece) (filled arguments (segments (drop (segment_len first) rest))) e refused) h
