-- The longest line of a mark and two numbers. Assumes nothing.
use Rattle.std.proofs.Common.{ℕ, ◌^◌, ◌<◌, ◌≤◌, [], ◌∷◌, ◌++◌, length, arith}
use Rattle.std.proofs.lemmas.List.{length-append}
use Rattle.refusal.specs.declared.Refusal.{Refusal}
use Rattle.refusal.specs.declared.Refusal.TheVariants.{WrongLength, WrongKind, WrongCount, StrayMapBit, NotAnElement, StoredZero, CountsDiffer, UnknownMark, NoMemberNamed, NeedlessWeights, Discloses, OtherFigure, PermitOpen, PermitsSpent, WrongRowLength, NotTheOpenPermit, NoSuchMember, UnexpectedByte, BadNumber, MemberRepeated, LineTooLong, AnswersFull, LogFull, LineNotEnded, TextTooLong}
use Rattle.refusal.specs.Numbered.{number}
use Rattle.buffer.proofs.Digits.{few-digits}
use Rattle.answer_text.specs.AnswerLines.{spaced, newline}
use Rattle.answer_text.proofs.Texts.{two_length}

pub small_number : (e : Refusal) → number e ≤ 25
small_number (WrongLength s) = omega arith
small_number WrongKind = omega arith
small_number WrongCount = omega arith
small_number (StrayMapBit s) = omega arith
small_number (NotAnElement s) = omega arith
small_number (StoredZero s) = omega arith
small_number CountsDiffer = omega arith
small_number (UnknownMark s) = omega arith
small_number (NoMemberNamed s) = omega arith
small_number (NeedlessWeights s) = omega arith
small_number (Discloses s) = omega arith
small_number (OtherFigure s) = omega arith
small_number PermitOpen = omega arith
small_number PermitsSpent = omega arith
small_number WrongRowLength = omega arith
small_number NotTheOpenPermit = omega arith
small_number NoSuchMember = omega arith
small_number (UnexpectedByte s) = omega arith
small_number (BadNumber s) = omega arith
small_number (MemberRepeated s) = omega arith
small_number (LineTooLong s) = omega arith
small_number AnswersFull = omega arith
small_number LogFull = omega arith
small_number LineNotEnded = omega arith
small_number TextTooLong = omega arith

pub pair_fits :
    (mark first second : ℕ) → first < 2 ^ 64 → second < 2 ^ 64
    → length (mark ∷ (spaced (first ∷ second ∷ []) ++ newline)) ≤ 44
pair_fits mark first second a b =
    let all = length-append (mark ∷ spaced (first ∷ second ∷ [])) newline in
    let two = two_length first second in
    let one = few-digits first a in
    let other = few-digits second b in
    omega arith
