-- What several sends did, some of which may have failed.
use Rattle.std.specs.Prelude.{◌≡◌, ℕ, List, [], ◌++◌, Option, Result, Ok, Err}
use Rattle.mb_base.specs.Shapes.{Bytes}
use Rattle.mb_edge.specs.Told.{with_more}
use Rattle.mb_cluster.specs.Posts.{posts, number_after, AreSome}

-- the first of two failures
abbrev pub first_failure : {E : Type 0} → Result (Unit {0}) E → Result (Unit {0}) E → Result (Unit {0}) E
first_failure (Ok done) next = next
first_failure (Err e) next = Err e

-- Some of these datagrams were sent, and all where none failed.
pub record SendsSome {E : Type 0} (datagrams : List (ℕ × Bytes)) (result : Result (Unit {0}) E) (old new : Option (List (ℕ × Bytes))) : Type 0 where
  pub some : List (ℕ × Bytes)
  pub told : new ≡ with_more old some
  pub among : AreSome some datagrams
  pub all : result ≡ Ok tt → some ≡ datagrams

-- A first part of these datagrams was sent, and all where none failed.
pub record SendsFront {E : Type 0} (datagrams : List (ℕ × Bytes)) (result : Result (Unit {0}) E) (old new : Option (List (ℕ × Bytes))) : Type 0 where
  pub front : List (ℕ × Bytes)
  pub rest : List (ℕ × Bytes)
  pub parts : front ++ rest ≡ datagrams
  pub told : new ≡ with_more old front
  pub all : result ≡ Ok tt → rest ≡ []

-- Some of these messages were begun, each in turn from the first on, and a first part of their datagrams was sent. The message behind those that were begun
-- has the number `behind`.
pub record SendsInTurn (messages : List Bytes) (hosts number behind : ℕ) (old new : Option (List (ℕ × Bytes))) : Type 0 where
  pub begun : List Bytes
  pub later : List Bytes
  pub whole : begun ++ later ≡ messages
  pub front : List (ℕ × Bytes)
  pub rest : List (ℕ × Bytes)
  pub parts : front ++ rest ≡ posts hosts number begun
  pub told : new ≡ with_more old front
  pub counted : behind ≡ number_after number begun
