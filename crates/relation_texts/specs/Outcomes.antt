-- What comes of a relation text, as the code holds it. Assumes nothing.
use Rattle.faults.specs.Faults.{Fault, fault_of}
use Rattle.faults.specs.declared.fault.TextFault.{TextFault}
use Rattle.places.specs.Meanings.{relation_of}
use Rattle.places.specs.Sets.{PlaceRelation}
use Rattle.places.specs.declared.relation.Relation.{Relation}
use Rattle.std.specs.Prelude.{Ok, Err, Result}

-- what an outcome of the code means
abbrev pub outcome_of : Result Relation TextFault → Result PlaceRelation Fault
outcome_of (Ok r) = Ok (relation_of r)
outcome_of (Err f) = Err (fault_of f)
