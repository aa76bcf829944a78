-- The lookup's finding in the form that C gets.
use Rattle.lookup.specs.Lookup.{Finding}
use Rattle.liwharoko.specs.declared.Part.{Part}

abbrev pub part_of : Finding → Part
part_of f = record { holder = f.holder; start = f.start; size = f.size }
