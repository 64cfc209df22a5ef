-- What the rules are lent: the heads of classes, productions, types and templates of a stream, each at its number, and the nonterminals that exist.
use Rattle.std.specs.Prelude.{ℕ, ◌≡◌, List, length}
use Rattle.rules.specs.Grammar.{classes, productions}
use Rattle.rules.specs.Templates.{types, templates}
use Rattle.limits.specs.declared.names.NameCounts.{NameCounts}
use Rattle.limits.specs.Bits.{Nonterminals}

pub record ClassTable (g cs : List ℕ) : Type 0 where
  pub classes_are : cs ≡ classes g

pub record ProductionTable (g ps : List ℕ) : Type 0 where
  pub productions_are : ps ≡ productions g

pub record TemplateTable (t ts : List ℕ) : Type 0 where
  pub templates_are : ts ≡ templates t

pub record GrammarTables (g cs ps bits : List ℕ) : Type 0 where
  pub classes_are : cs ≡ classes g
  pub productions_are : ps ≡ productions g
  pub nonterminals_are : Nonterminals g bits

-- of the grammar the classes are read, for the plain ones among them
pub record AllTables (g t cs ps us ts bits : List ℕ) : Type 0 where
  pub classes_are : cs ≡ classes g
  pub productions_are : ps ≡ productions g
  pub types_are : us ≡ types t
  pub templates_are : ts ≡ templates t
  pub nonterminals_are : Nonterminals g bits

-- what an element of a grammar may name: so many classes, and the nonterminals that exist
pub record Nameable (g : List ℕ) (count : ℕ) (bits : List ℕ) : Type 0 where
  pub classes_are : count ≡ length (classes g)
  pub nonterminals_are : Nonterminals g bits

-- what a type may name: the plain ones among the classes, so many types
pub record TypeCounts (g t cs : List ℕ) (us : ℕ) : Type 0 where
  pub classes_are : cs ≡ classes g
  pub types_are : us ≡ length (types t)

-- what a node may name: so many productions, so many templates
pub record NodeCounts (g t : List ℕ) (ps ts : ℕ) : Type 0 where
  pub productions_are : ps ≡ length (productions g)
  pub templates_are : ts ≡ length (templates t)

-- how many there are of what a template may name
pub record Counted (g t : List ℕ) (n : NameCounts) : Type 0 where
  pub productions_are : n.productions ≡ length (productions g)
  pub types_are : n.types ≡ length (types t)
  pub templates_are : n.templates ≡ length (templates t)

pub record Naming (g t : List ℕ) (counts : NameCounts) (bits : List ℕ) : Type 0 where
  pub counted : Counted g t counts
  pub nonterminals_are : Nonterminals g bits
