-- The first k records are taken apart. (The check does not know by itself that an array of signed numbers keeps its length.)
use Rattle.std.proofs.Common.{◌≡◌, length, map, take}
use Rattle.ground.specs.Limits.{gaps_most}
use Rattle.records.proofs.take_apart.Given as goal

abbrev pub invariant-loop-k : goal.invariant-loop-k
invariant-loop-k l = record {
  lefts : take l.k l.left ≡ map (λ g. g.left) (take l.k l.gaps);
  rights : take l.k l.right ≡ map (λ g. g.right) (take l.k l.gaps);
  distances : take l.k l.distance ≡ map (λ g. g.distance) (take l.k l.gaps);
  distance_length : length l.distance ≡ gaps_most;
  kinds : take l.k l.kind ≡ map (λ g. g.kind) (take l.k l.gaps);
}
