-- The numbers of causes, and what they are called where they are printed.
use Rattle.std.specs.Prelude.{ℕ, List, codes}
use Rattle.record_reader.specs.declared.cause.Cause.{Cause}
use Rattle.record_reader.specs.declared.cause.Cause.TheVariants.{UnknownRecord, FieldCount, BadNumber, BadWord, BadPolarization, DuplicatePath, UnknownDomain, UnknownPath, SelfPair, Increasing, TooManyPaths, TooManyValues, TooManyRecords, DomainTooLarge, TooManyChoices}

abbrev pub cause_name : Cause → List ℕ
cause_name UnknownRecord = codes "UnknownRecord"
cause_name FieldCount = codes "FieldCount"
cause_name BadNumber = codes "BadNumber"
cause_name BadWord = codes "BadWord"
cause_name BadPolarization = codes "BadPolarization"
cause_name DuplicatePath = codes "DuplicatePath"
cause_name UnknownDomain = codes "UnknownDomain"
cause_name UnknownPath = codes "UnknownPath"
cause_name SelfPair = codes "SelfPair"
cause_name Increasing = codes "Increasing"
cause_name TooManyPaths = codes "TooManyPaths"
cause_name TooManyValues = codes "TooManyValues"
cause_name TooManyRecords = codes "TooManyRecords"
cause_name DomainTooLarge = codes "DomainTooLarge"
cause_name TooManyChoices = codes "TooManyChoices"

abbrev pub cause_number : Cause → ℕ
cause_number UnknownRecord = 1
cause_number FieldCount = 2
cause_number BadNumber = 3
cause_number BadWord = 4
cause_number BadPolarization = 5
cause_number DuplicatePath = 6
cause_number UnknownDomain = 7
cause_number UnknownPath = 8
cause_number SelfPair = 9
cause_number Increasing = 10
cause_number TooManyPaths = 11
cause_number TooManyValues = 12
cause_number TooManyRecords = 13
cause_number DomainTooLarge = 14
cause_number TooManyChoices = 15
