mod FoundRows
