-- What is found of the block at one end of a pushing gap.
use Rattle.std.specs.Prelude.{ℕ, ◌≡◌, cond, List, ltb, length, ℤ, ◌*ℤ◌}
use Rattle.core_forest.specs.Tree.{Tree}
use Rattle.ground.specs.Entries.{nat, int}
use Rattle.core_elimination.specs.Block.{weight_sum, wanted_sum, Given, surplus_at, only_at}
use Rattle.core_elimination.specs.Eliminate.{eliminated}
use Rattle.core_breaking.specs.declared.Side.{Side}
use Rattle.core_breaking.specs.Breaking.{candidate_of, least_break}
use Rattle.ground.specs.declared.problem.Problem.{Problem}
use Rattle.core_forest.specs.declared.search.Work.{Work}
use Rattle.core_forest.specs.Problem.{graph_of}
use Rattle.core_forest.specs.Search.{Outside}
use Rattle.ground.specs.Limits.{labels_most}

-- the shares that are eliminated beside the surplus: all to the other end where it stands in the block, else the
-- weights
abbrev pub share_of : Problem → Side → ℕ → ℕ → ℤ
share_of p r other x = cond r.joined (only_at other r.sums.weight x) (int p.weight x)

-- the block as a search leaves it, and what its two eliminations and its breaking points come to
pub record SideFound (p : Problem) (mark : List ℕ) (root other : ℕ) (sign : ℤ) (r : Side) (w : Work) (held share : List ℤ) : Type 0 where
  pub counted : w.count ≡ r.count
  pub tree : Tree (graph_of p mark) root r.count w.at w.queue w.via w.up w.off
  pub weight : r.sums.weight ≡ weight_sum r.count w.queue p.weight
  pub wanted : r.sums.wanted ≡ wanted_sum r.count w.queue w.off p.wanted p.weight
  pub joined : r.joined ≡ ltb 0 (nat w.at other)
  pub held₀ : List ℤ
  pub held₁ : List ℤ
  pub surplus : Given r.count w.queue (λ x. sign *ℤ surplus_at r.sums w.off p.wanted p.weight x) held₀ held₁
  pub held_size : length held₁ ≡ labels_most
  pub held_is : held ≡ eliminated r.count w.queue w.up held₁
  pub share₀ : List ℤ
  pub share₁ : List ℤ
  pub shares : Given r.count w.queue (share_of p r other) share₀ share₁
  pub share_size : length share₁ ≡ labels_most
  pub share_is : share ≡ eliminated r.count w.queue w.up share₁
  pub first : r.first ≡ least_break r.count (candidate_of p sign w held share)

-- the same over what outlasts the call; the others are scratch
pub record SideSays (p : Problem) (mark : List ℕ) (root other : ℕ) (sign : ℤ) (r : Side) (w₀ w : Work) : Type 0 where
  pub held : List ℤ
  pub share : List ℤ
  pub found : SideFound p mark root other sign r w held share
  pub rest : Outside p.labels root r.count w₀ w
