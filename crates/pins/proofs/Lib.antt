-- `Choices`: a choice by its Bool; `Table`: one sample.
pub mod Choices
pub mod Table
