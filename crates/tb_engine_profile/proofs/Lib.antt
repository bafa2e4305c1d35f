mod Profiling
