-- The causes for which an answer is not accepted: their numbers, and what they are called where
-- they are printed.
use Rattle.std.specs.Prelude.{ℕ, List, codes}
use Rattle.cert_lines.specs.declared.reject.RejectCause.{RejectCause}
use Rattle.cert_lines.specs.declared.reject.RejectCause.TheVariants.{CiteNotEarlier, CiteNotContained, CiteTagTooLow, NotDead, WrongPath, AssignmentLength, ChoiceNotInDomain, ImperativeBroken, TripleDiffers, NoRootLine, RootTagTooLow, CiteDeleted, DeleteNotEarlier, DeletedTwice}

abbrev pub reject_number : RejectCause → ℕ
reject_number CiteNotEarlier = 1
reject_number CiteNotContained = 2
reject_number CiteTagTooLow = 3
reject_number NotDead = 4
reject_number WrongPath = 5
reject_number AssignmentLength = 6
reject_number ChoiceNotInDomain = 7
reject_number ImperativeBroken = 8
reject_number (TripleDiffers claimed found) = 9
reject_number NoRootLine = 10
reject_number (RootTagTooLow claimed found) = 11
reject_number CiteDeleted = 12
reject_number DeleteNotEarlier = 13
reject_number DeletedTwice = 14

abbrev pub reject_name : RejectCause → List ℕ
reject_name CiteNotEarlier = codes "CiteNotEarlier"
reject_name CiteNotContained = codes "CiteNotContained"
reject_name CiteTagTooLow = codes "CiteTagTooLow"
reject_name NotDead = codes "NotDead"
reject_name WrongPath = codes "WrongPath"
reject_name AssignmentLength = codes "AssignmentLength"
reject_name ChoiceNotInDomain = codes "ChoiceNotInDomain"
reject_name ImperativeBroken = codes "ImperativeBroken"
reject_name (TripleDiffers claimed found) = codes "TripleDiffers"
reject_name NoRootLine = codes "NoRootLine"
reject_name (RootTagTooLow claimed found) = codes "RootTagTooLow"
reject_name CiteDeleted = codes "CiteDeleted"
reject_name DeleteNotEarlier = codes "DeleteNotEarlier"
reject_name DeletedTwice = codes "DeletedTwice"
