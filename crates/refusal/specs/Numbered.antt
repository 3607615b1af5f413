-- The number of each refusal, and what comes with it: a member, a row of a log, a byte of a line, or 0.
--   number, detail   the number; what comes with it
--   place            the number of the member or row that a site points at, and 0 for nothing
-- Assumes nothing.
use Rattle.std.specs.Prelude.{ℕ}
use Rattle.refusal.specs.declared.Site.{Site}
use Rattle.refusal.specs.declared.Site.TheVariants.{Nothing, OfMember, OfRow}
use Rattle.refusal.specs.declared.Refusal.{Refusal}
use Rattle.refusal.specs.declared.Refusal.TheVariants.{
  WrongLength,
  WrongKind,
  WrongCount,
  StrayMapBit,
  NotAnElement,
  StoredZero,
  CountsDiffer,
  UnknownMark,
  NoMemberNamed,
  NeedlessWeights,
  Discloses,
  OtherFigure,
  PermitOpen,
  PermitsSpent,
  WrongRowLength,
  NotTheOpenPermit,
  NoSuchMember,
  UnexpectedByte,
  BadNumber,
  MemberRepeated,
  LineTooLong,
  AnswersFull,
  LogFull,
  LineNotEnded,
  TextTooLong,
}

abbrev pub number : Refusal → ℕ
number (WrongLength s) = 1
number WrongKind = 2
number WrongCount = 3
number (StrayMapBit s) = 4
number (NotAnElement s) = 5
number (StoredZero s) = 6
number CountsDiffer = 7
number (UnknownMark k) = 8
number (NoMemberNamed s) = 9
number (NeedlessWeights k) = 10
number (Discloses s) = 11
number (OtherFigure k) = 12
number PermitOpen = 13
number PermitsSpent = 14
number WrongRowLength = 15
number NotTheOpenPermit = 16
number NoSuchMember = 17
number (UnexpectedByte p) = 18
number (BadNumber p) = 19
number (MemberRepeated p) = 20
number (LineTooLong p) = 21
number AnswersFull = 22
number LogFull = 23
number LineNotEnded = 24
number TextTooLong = 25

-- the number of what a refusal points at, and 0 for nothing
abbrev pub place : Site → ℕ
place Nothing = 0
place (OfMember m) = m.0
place (OfRow k) = k.0

abbrev pub detail : Refusal → ℕ
detail (WrongLength s) = place s
detail WrongKind = 0
detail WrongCount = 0
detail (StrayMapBit s) = place s
detail (NotAnElement s) = place s
detail (StoredZero s) = place s
detail CountsDiffer = 0
detail (UnknownMark k) = k.0
detail (NoMemberNamed s) = place s
detail (NeedlessWeights k) = k.0
detail (Discloses s) = place s
detail (OtherFigure k) = k.0
detail PermitOpen = 0
detail PermitsSpent = 0
detail WrongRowLength = 0
detail NotTheOpenPermit = 0
detail NoSuchMember = 0
detail (UnexpectedByte p) = p.0
detail (BadNumber p) = p.0
detail (MemberRepeated p) = p.0
detail (LineTooLong p) = p.0
detail AnswersFull = 0
detail LogFull = 0
detail LineNotEnded = 0
detail TextTooLong = 0
